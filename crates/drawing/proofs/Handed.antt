-- Answers that are handed on.
use Rattle.std.proofs.Common.{◌≡◌, List, ℕ, ◌-◌, ◌++◌, Result, Ok, Err, IfOk, IfErr, length, refl, subst, sym, ap, ◌∙◌, ◌≤◌, take, drop, append_assoc, length-take, arith, Vec}
use Rattle.std.specs.Prelude.{slice_range, vec_items, map as list_map, IsErrAnd}
use Rattle.std.specs.declared.alloc.Global.{Global}
use Rattle.lock_word.specs.declared.Word.{Word}
use Rattle.std.proofs.lemmas.List.{take-append-drop}
use Rattle.step_core.specs.declared.machine.Move.{Move}
use Rattle.step_core.specs.declared.steps.Request.{Request}
use Rattle.step_core.specs.Cycles.{AreCycles}
use Rattle.step_core.specs.Machine.{Run, State, opening}
use Rattle.step_core.specs.Shown.{shown}
use Rattle.step_core.specs.World.{WorldState, opening_world}
use Rattle.history.specs.Histories.{first_world}
use Rattle.history.specs.Plans.{IsPlanOf}
use Rattle.history.specs.declared.plans.Plan.{Plan}
use Rattle.script_text.specs.Scripts.{IsReasonFor}
use Rattle.pictures.specs.declared.columns.Column.{Column}
use Rattle.pictures.specs.declared.picture.Picture.{Picture}
use Rattle.pictures.specs.Pictures.{all_moves, CanRun, IsPicture, IsRun, last_state, threads_numbered}
use Rattle.pictures.proofs.Films.{follow_run}
use Rattle.pictures.proofs.Runs.{front_runs, run_join, run_one}
use Rattle.picture_text.specs.declared.naming.Naming.{Naming}
use Rattle.drawing.specs.Columns.{AreColumns, HaveWords, columns_of}
use Rattle.drawing.specs.Drawings.{HaveTooMany, IsMovesReason, IsPictureReason, IsPlanDrawing, IsPlanReason, IsPlayed, IsPlayedDrawing, IsScriptDrawing, IsScriptReason, IsTrialReason, NamesBy}
use Rattle.drawing.specs.Faults.{out_of_memory}
use Rattle.drawing.specs.Windows.{IsBeyond, begin_of, end_of, front_of, part_of}
use Rattle.drawing.specs.declared.faults.DrawFault.{DrawFault}
use Rattle.drawing.specs.declared.faults.DrawFault.TheVariants.{File, TooManyColumns, TooManyLanes, NoSuchColumn}
use Rattle.drawing.specs.declared.playing.Played.{Played}
use Rattle.drawing.specs.declared.windows.Window.{Window}
use Rattle.drawing.proofs.ColumnLists.{columns_length, columns_run, moves_of_columns, through_columns, through_length}

-- ---- a window

-- the same parts of the same list
pub same_front : {X : Type 0} (window : Window) (xs ys : List X) (b : ℕ) → xs ≡ ys → b ≡ begin_of window → take b xs ≡ front_of window ys
same_front window xs ys b p q = ap (take b) p ∙ ap (λ k. take k ys) q

pub same_part : {X : Type 0} (window : Window) (xs ys : List X) (b e n : ℕ) → xs ≡ ys → b ≡ begin_of window → e ≡ end_of window n → n ≡ length ys
    → slice_range xs b e ≡ part_of window ys
same_part window xs ys b e n p q r s =
    ap (λ l. slice_range l b e) p ∙ ap (λ k. slice_range ys k e) q ∙ ap (λ k. slice_range ys (begin_of window) k) (r ∙ ap (end_of window) s)

pub no_column : (plan : Plan) (window : Window) (e : DrawFault) → (e ≡ NoSuchColumn window.first) × IsBeyond window (length plan.steps.items) → IsPlanReason plan window e
no_column plan window e d = subst (IsPlanReason plan window) (sym d.0) (refl, d.1)

pub no_move : (objects : ℕ) (moves : List Move) (window : Window) (e : DrawFault) → (e ≡ NoSuchColumn window.first) × IsBeyond window (length moves)
    → IsMovesReason objects moves window e
no_move objects moves window e d = subst (IsMovesReason objects moves window) (sym d.0) (refl, d.1)

-- ---- scripts

pub played_front : (plan : Plan) (w start : WorldState) (lows : List ℕ) (steps : List Request) (front : List Request) (cs : List Column)
    → w ≡ opening_world lows plan.monitors plan.indices plan.split → lows ≡ plan.lows.items → steps ≡ front → AreColumns w steps start cs → AreColumns (first_world plan) front start cs
played_front plan w start lows steps front cs p q r columns =
    subst (λ x. AreColumns x front start cs) (p ∙ ap (λ l. opening_world l plan.monitors plan.indices plan.split) q)
    (subst (λ l. AreColumns w l start cs) r columns)

pub front_run : (w start : WorldState) (steps : List Request) (cs front : List Column) (n m : ℕ) → AreColumns w steps start cs → shown w ≡ opening n → m ≡ n → front ≡ cs
    → Run (opening m) (all_moves front) (shown start)
front_run w start steps cs front n m columns opens same e =
    subst (λ l. Run (opening m) (all_moves l) (shown start)) (sym e)
    (subst (λ k. Run (opening k) (all_moves cs) (shown start)) (sym same) (subst (λ s. Run s (all_moves cs) (shown start)) opens (columns_run w start steps cs columns)))

pub front_short : (w start : WorldState) (steps : List Request) (b : ℕ) (cs : List Column) → AreColumns w (take b steps) start cs → length cs ≤ b
front_short w start steps b cs p = omega (arith, columns_length w start (take b steps) cs p, length-take b steps)

-- the world and the columns of a trial
pub trial_columns : (world trial v : WorldState) (steps : List Request) (cs columns : List Column) → trial ≡ world → columns ≡ cs → AreColumns trial steps v cs → AreColumns world steps v columns
trial_columns world trial v steps cs columns p q played = subst (λ l. AreColumns world steps v l) (sym q) (subst (λ w. AreColumns w steps v cs) p played)

pub trial_run : (objects : ℕ) (front cs : List Column) (world v : WorldState) (steps : List Request) → Run (opening objects) (all_moves front) (shown world) → AreColumns world steps v cs
    → IsRun objects front cs
trial_run objects front cs world v steps run played =
    (shown v, run_join (all_moves front) (all_moves cs) (opening objects) (shown world) (shown v) run (columns_run world v steps cs played))

trial_fault : (objects : ℕ) (front cs : List Column) (start world : WorldState) (steps : List Request) (e : DrawFault) → AreColumns start steps world cs
    → IsPictureReason objects front cs e → IsTrialReason objects front start steps e
trial_fault objects front cs start world steps (File fault) p d = d
trial_fault objects front cs start world steps (NoSuchColumn n) p d = absurd d
trial_fault objects front cs start world steps TooManyColumns p d = record { world = world; columns = cs; played = p; many = d }
trial_fault objects front cs start world steps TooManyLanes p d = record { world = world; columns = cs; played = p; many = d }

pub trial_refused : {S : Type 0} (objects : ℕ) (front cs : List Column) (start world : WorldState) (steps : List Request) (r : Result S DrawFault) → AreColumns start steps world cs
    → IfErr r (IsPictureReason objects front cs) → IfErr r (IsTrialReason objects front start steps)
trial_refused objects front cs start world steps (Ok t) p d = tt
trial_refused objects front cs start world steps (Err e) p d = trial_fault objects front cs start world steps e p d

trial_means : (plan : Plan) (window : Window) (start : WorldState) (front : List Column) (e : DrawFault) → AreColumns (first_world plan) (front_of window plan.steps.items) start front
    → IsTrialReason (length plan.lows.items) front start (part_of window plan.steps.items) e → IsPlanReason plan window e
trial_means plan window start front (File fault) in_front d = d
trial_means plan window start front (NoSuchColumn n) in_front d = absurd d.many
trial_means plan window start front TooManyColumns in_front d = record {
  start = start;
  front = front;
  in_front = in_front;
  world = d.world;
  columns = d.columns;
  played = d.played;
  many = d.many;
}
trial_means plan window start front TooManyLanes in_front d = record {
  start = start;
  front = front;
  in_front = in_front;
  world = d.world;
  columns = d.columns;
  played = d.played;
  many = d.many;
}

pub trial_reason : (plan : Plan) (window : Window) (start : WorldState) (front cs : List Column) (objects : ℕ) (steps : List Request) (e : DrawFault)
    → AreColumns (first_world plan) (front_of window plan.steps.items) start front → objects ≡ length plan.lows.items → cs ≡ front → steps ≡ part_of window plan.steps.items
    → IsTrialReason objects cs start steps e → IsPlanReason plan window e
trial_reason plan window start front cs objects steps e in_front p q r d =
    trial_means plan window start front e in_front
    (subst (λ l. IsTrialReason (length plan.lows.items) front start l e) r
    (subst (λ l. IsTrialReason (length plan.lows.items) l start steps e) q (subst (λ n. IsTrialReason n cs start steps e) p d)))

pub played_run : (plan : Plan) (window : Window) (played : Played) (worlds : List WorldState) (n objects : ℕ) → IsPlayed plan window played worlds → shown (first_world plan) ≡ opening n
    → objects ≡ n → Run (opening objects) (all_moves played.front.items ++ all_moves played.columns.items) (shown played.world)
played_run plan window played worlds n objects p opens same =
    let front = columns_run _ _ _ _ p.front in
    let part = columns_run _ _ _ _ (through_columns _ _ _ _ _ p.part) in
    subst (λ k. Run (opening k) (all_moves played.front.items ++ all_moves played.columns.items) (shown played.world)) (sym same)
    (run_join (all_moves played.front.items) (all_moves played.columns.items) (opening n) (shown p.start) (shown played.world)
    (subst (λ s. Run s (all_moves played.front.items) (shown p.start)) opens front) part)

pub plan_drawn : {S : Type 0} (bytes : S → List ℕ) (plan : Plan) (window : Window) (played : Played) (worlds : List WorldState) (naming : Naming) (objects : ℕ) (r : Result S DrawFault)
    → (IsBeyond window (length plan.steps.items) → ⊥) → IsPlayed plan window played worlds → NamesBy plan naming → objects ≡ length plan.lows.items
    → ((ws : List WorldState) → HaveWords played.drawn.items ws played.words.items → length ws ≡ length played.columns.items → IfOk r (λ t. IsPlayedDrawing naming objects played ws (bytes t)))
    → IfOk r (λ t. IsPlanDrawing plan window (bytes t))
plan_drawn bytes plan window played worlds naming objects (Ok t) within p names e d = record {
  within = within;
  played = played;
  worlds = worlds;
  are = p;
  naming = naming;
  names = names;
  drawing = subst (λ n. IsPlayedDrawing naming n played worlds (bytes t)) e (d worlds p.words (through_length _ _ _ _ _ p.part));
}
plan_drawn bytes plan window played worlds naming objects (Err e) within p names same d = tt

plan_reason : (plan : Plan) (window : Window) (played : Played) (worlds : List WorldState) (objects : ℕ) (e : DrawFault) → IsPlayed plan window played worlds → objects ≡ length plan.lows.items
    → IsPictureReason objects played.front.items played.columns.items e → IsPlanReason plan window e
plan_reason plan window played worlds objects (File fault) p same d = d
plan_reason plan window played worlds objects (NoSuchColumn n) p same d = absurd d
plan_reason plan window played worlds objects TooManyColumns p same d = record {
  start = p.start;
  front = played.front.items;
  in_front = p.front;
  world = played.world;
  columns = played.columns.items;
  played = through_columns _ _ _ _ _ p.part;
  many = subst (λ n. HaveTooMany n played.front.items played.columns.items TooManyColumns) same d;
}
plan_reason plan window played worlds objects TooManyLanes p same d = record {
  start = p.start;
  front = played.front.items;
  in_front = p.front;
  world = played.world;
  columns = played.columns.items;
  played = through_columns _ _ _ _ _ p.part;
  many = subst (λ n. HaveTooMany n played.front.items played.columns.items TooManyLanes) same d;
}

pub plan_refused : {S : Type 0} (plan : Plan) (window : Window) (played : Played) (worlds : List WorldState) (objects : ℕ) (r : Result S DrawFault)
    → IsPlayed plan window played worlds → objects ≡ length plan.lows.items → IfErr r (IsPictureReason objects played.front.items played.columns.items)
    → IfErr r (IsPlanReason plan window)
plan_refused plan window played worlds objects (Ok t) p same d = tt
plan_refused plan window played worlds objects (Err e) p same d = plan_reason plan window played worlds objects e p same d

-- the cycles of a picture are those of the state to which its columns lead
pub cycles_behind : (objects : ℕ) (front cs : List Column) (words : List (Vec Word Global)) (picture : Picture) (end : State) → IsPicture objects front cs words picture
    → Run (opening objects) (all_moves front ++ all_moves cs) end → AreCycles end (list_map vec_items picture.cycles.items)
cycles_behind objects front cs words picture end is run =
    let there = run_join (all_moves front) (all_moves cs) (opening objects) is.start (last_state is.start is.states) is.reached
    (follow_run (threads_numbered is.threads) 0 is.start cs is.states is.told is.follow) in
    subst (λ s. AreCycles s (list_map vec_items picture.cycles.items)) (run_one (all_moves front ++ all_moves cs) (opening objects) (last_state is.start is.states) end there run) is.cycles

pub script_drawn : {S : Type 0} (bytes : S → List ℕ) (window : Window) (input : List ℕ) (plan : Plan) (r : Result S DrawFault)
    → IsPlanOf plan input → IfOk r (λ t. IsPlanDrawing plan window (bytes t)) → IfOk r (λ t. IsScriptDrawing window input (bytes t))
script_drawn bytes window input plan (Ok t) script d = record { plan = plan; script = script; drawing = d }
script_drawn bytes window input plan (Err e) script d = tt

script_reason : (window : Window) (input : List ℕ) (plan : Plan) (e : DrawFault) → IsPlanOf plan input → IsPlanReason plan window e → IsScriptReason window input e
script_reason window input plan (File fault) script d = subst (IsReasonFor input) (sym d) tt
script_reason window input plan TooManyColumns script d = record { plan = plan; script = script; many = d }
script_reason window input plan TooManyLanes script d = record { plan = plan; script = script; many = d }
script_reason window input plan (NoSuchColumn n) script d = record { plan = plan; script = script; many = d }

pub script_refused : {S : Type 0} (window : Window) (input : List ℕ) (plan : Plan) (r : Result S DrawFault)
    → IsPlanOf plan input → IfErr r (IsPlanReason plan window) → IfErr r (IsScriptReason window input)
script_refused window input plan (Ok t) script d = tt
script_refused window input plan (Err e) script d = script_reason window input plan e script d

-- ---- histories

pub moves_run : (objects : ℕ) (ms : List Move) (window : Window) → CanRun (opening objects) ms → IsRun objects (columns_of (front_of window ms)) (columns_of (part_of window ms))
moves_run objects ms window r =
    let front = front_of window ms in
    let part = part_of window ms in
    let rest = drop (begin_of window) ms in
    let count = end_of window (length ms) - begin_of window in
    let whole : (front ++ part) ++ drop count rest ≡ ms =
    append_assoc front part (drop count rest) ∙ ap (λ l. front ++ l) (take-append-drop count rest) ∙ take-append-drop (begin_of window) ms in
    let run = front_runs (front ++ part) (drop count rest) (opening objects) (subst (CanRun (opening objects)) (sym whole) r) in
    subst (λ l. CanRun (opening objects) (l ++ all_moves (columns_of part))) (sym (moves_of_columns front))
    (subst (λ l. CanRun (opening objects) (front ++ l)) (sym (moves_of_columns part)) run)

moves_reason : (objects : ℕ) (ms : List Move) (window : Window) (e : DrawFault) → IsPictureReason objects (columns_of (front_of window ms)) (columns_of (part_of window ms)) e
    → IsMovesReason objects ms window e
moves_reason objects ms window (File fault) d = d
moves_reason objects ms window TooManyColumns d = d
moves_reason objects ms window TooManyLanes d = d
moves_reason objects ms window (NoSuchColumn n) d = absurd d

pub moves_run_of : (objects n : ℕ) (ms : List Move) (window : Window) (front cs : List Column) → CanRun (opening n) ms → objects ≡ n → front ≡ columns_of (front_of window ms)
    → cs ≡ columns_of (part_of window ms) → IsRun objects front cs
moves_run_of objects n ms window front cs r p q h =
    subst (λ k. IsRun k front cs) (sym p) (subst (λ l. IsRun n l cs) (sym q) (subst (λ l. IsRun n (columns_of (front_of window ms)) l) (sym h) (moves_run n ms window r)))

pub moves_picture : (objects n : ℕ) (ms : List Move) (window : Window) (front cs : List Column) (words : List (Vec Word Global)) (picture : Picture) → objects ≡ n → front ≡ columns_of (front_of window ms)
    → cs ≡ columns_of (part_of window ms) → IsPicture objects front cs words picture → IsPicture n (columns_of (front_of window ms)) (columns_of (part_of window ms)) words picture
moves_picture objects n ms window front cs words picture p q h is =
    subst (λ l. IsPicture n (columns_of (front_of window ms)) l words picture) h (subst (λ l. IsPicture n l cs words picture) q (subst (λ k. IsPicture k front cs words picture) p is))

pub moves_fault : (objects n : ℕ) (ms : List Move) (window : Window) (front cs : List Column) (e : DrawFault) → objects ≡ n → front ≡ columns_of (front_of window ms)
    → cs ≡ columns_of (part_of window ms) → IsPictureReason objects front cs e → IsMovesReason n ms window e
moves_fault objects n ms window front cs e p q h d =
    moves_reason n ms window e (subst (λ l. IsPictureReason n (columns_of (front_of window ms)) l e) h (subst (λ l. IsPictureReason n l cs e) q (subst (λ k. IsPictureReason k front cs e) p d)))

-- ---- faults

-- where there is a fault, there is no drawing
pub no_drawing : {T E : Type 0} (P : T → Type 0) (Q : E → Type 0) (r : Result T E) → IsErrAnd r Q → IfOk r P
no_drawing P Q (Ok x) e = absurd e
no_drawing P Q (Err x) e = tt

-- want of memory is a reason of any picture
pub short_of_memory : {T : Type 0} (r : Result T DrawFault) (objects : ℕ) (front cs : List Column) → IsErrAnd r (λ e. e ≡ out_of_memory) → IfErr r (IsPictureReason objects front cs)
short_of_memory (Ok x) objects front cs e = tt
short_of_memory (Err x) objects front cs e = subst (IsPictureReason objects front cs) (sym e) refl

-- a fault of a picture is one of the drawing
pub picture_refused : {T : Type 0} (r : Result T DrawFault) (e : DrawFault) (objects : ℕ) (front front' cs cs' : List Column)
    → IsErrAnd r (λ f. f ≡ e) → front ≡ front' → cs ≡ cs' → IsPictureReason objects front cs e → IfErr r (IsPictureReason objects front' cs')
picture_refused (Ok x) e objects front front' cs cs' is p q h = tt
picture_refused (Err x) e objects front front' cs cs' is p q h =
    subst (IsPictureReason objects front' cs') (sym is) (rw (p, q) at h)
