use Rattle.explore_java.specs.JavaFound.{witness_at}
use Rattle.explore_java.proofs.Once.{moves_once}
use Rattle.explore_java.proofs.ProperPlays.{witness_proper}
use Rattle.explore_java.proofs.Running.{found_end_is_outcome, found_end_rests, lawful_is_made, made_is_lawful, move_is_counted, outcome_is_end, play_is_run, play_returns, play_wants, run_is_found}
use Rattle.explore_java.proofs.laws.the_states_are_those_of_the_machine.Goals as goal

pub returns : goal.returns
returns c = record {
  run = λ p ws k t states lt here. play_is_run p (witness_at ws k) t (witness_proper p ws states k lt) here;
  wants = λ p ws k t states lt here. play_wants p (witness_at ws k) t (witness_proper p ws states k lt) here;
  returns = λ p ws k j t states lt here within. play_returns p (witness_at ws k) t j (witness_proper p ws states k lt) here within;
  made = λ p ws k t m y states lt here left want h.
      lawful_is_made p (witness_at ws k) t (witness_proper p ws states k lt) here m y left want h;
  lawful = λ p ws k t u m states lt here e. made_is_lawful p (witness_at ws k) t u (witness_proper p ws states k lt) here m e;
  counted = λ p ws k t u m states lt here e. move_is_counted p (witness_at ws k) t u m (witness_proper p ws states k lt) here e;
  once = λ p t i j less lt same. moves_once p t i j less lt same;
  end = λ p f i t finds lt here. found_end_is_outcome p f finds i t lt here;
  rests = λ p f i t u flag d finds lt here is. found_end_rests p f finds i t lt here u flag d is;
  found = λ p f ms x finds run wants. run_is_found p f finds ms x run wants;
  outcome = λ p f ms x finds out wants. outcome_is_end p f finds ms x out wants;
}
