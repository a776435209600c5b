-- A world as contracts see it.
use Rattle.step_core.specs.declared.worlds.World.TheInside.{Inside}
use Rattle.step_core.specs.World.{WorldState}

abbrev pub world_in : Inside → WorldState
world_in a = record {
  split = a.split;
  words = a.words.items;
  berths = a.indices;
  places = a.places.items;
  fats = a.fats;
}
