-- Calls that follow one another, and works that are driven.
use Rattle.std.specs.Prelude.{◌≡◌, ◌<◌, ℕ, ◌+◌, suc, List, [], ◌∷◌, ◌++◌, length, map, reverse, Option, Some, None, IfSome, IfNone, option_to_list, Result, Ok, Err}
use Rattle.std.specs.List.{All}
use mathlib.Core.List.{reverse-cons}
use Rattle.std.proofs.Common.{refl, sym, ap, ◌∙◌, subst, arith, take, drop, get_or}
use Rattle.std.proofs.Math.Seq.{take-suc}
use Rattle.std.proofs.lemmas.List.{take-append-drop, length-take-le, length_push, map-append, append-nil, append_assoc, reverse-append}
use Rattle.std.proofs.lemmas.List.Elements.{All-nil, All-cons, All-head, All-tail}
use Rattle.fat_monitor.specs.declared.actions.Reply.{Reply}
use Rattle.fast_path.specs.Calls.{subject_of}
use Rattle.fast_path.specs.declared.calls.Call.{Call}
use Rattle.fast_path.specs.declared.calls.Subject.{Subject}
use Rattle.fast_path.specs.declared.calls.Subject.TheVariants.{Monitor, Interrupt, End}
use Rattle.fast_path.specs.declared.calls.MonitorCall.{MonitorCall}
use Rattle.fast_path.specs.declared.calls.InterruptCall.{InterruptCall}
use Rattle.header_words.specs.Passes.{Opening}
use Rattle.header_words.proofs.Opens.{all_last, all_front}
use Rattle.live_book.specs.declared.faults.LiveFault.{LiveFault}
use Rattle.live_book.specs.declared.faults.LiveFault.TheVariants as fault
use Rattle.live_turns.specs.Points.{GivenUpOn, GivenUpAbout}
use Rattle.live_turns.specs.Ways.{Holding}
use Rattle.live_threads.specs.declared.driving.Work.{Work}
use Rattle.live_threads.specs.declared.driving.Worked.{Worked}
use Rattle.live_threads.specs.Driving.{Called, CalledFor, Answered, Driven, AllDriven}

abbrev Answer : Type 0
Answer = Result Reply LiveFault

answered_snoc : (z : Opening) (cs : List Call) (xs : List Answer) (c : Call) (x : Answer) (p q r : Holding) → length xs ≡ length cs → Answered z cs xs p q → Called z c x q r → Answered z (cs ++ c ∷ []) (xs ++ x ∷ []) p r
answered_snoc z [] [] c x p q r len h k = (r, subst (λ (y : Holding). Called z c x y r) h k, refl)
answered_snoc z [] (y ∷ ys) c x p q r len h k = absurd (omega arith)
answered_snoc z (d ∷ ds) [] c x p q r len h k = absurd (omega arith)
answered_snoc z (d ∷ ds) (y ∷ ys) c x p q r len h k = (h.0, h.1, answered_snoc z ds ys c x h.0 q r (omega arith) h.2 k)

answered_more : (z : Opening) (cs ds : List Call) (xs : List Answer) (p q : Holding) → Answered z cs xs p q → Answered z (cs ++ ds) xs p q
answered_more z cs ds [] p q h = h
answered_more z [] ds (x ∷ xs) p q h = absurd h
answered_more z (c ∷ cs) ds (x ∷ xs) p q h = (h.0, h.1, answered_more z cs ds xs h.0 q h.2)

-- the next call of a list, answered
pub answered_next : (z : Opening) (all : List Call) (k : ℕ) (d : Call) (xs : List Answer) (x : Answer) (p q r : Holding) → k < length all → length xs ≡ k
    → Answered z (take k all) xs p q → Called z (get_or all k d) x q r → Answered z (take (k + 1) all) (xs ++ x ∷ []) p r
answered_next z all k d xs x p q r lt len h c =
    let one : k + 1 ≡ suc k = omega arith in
    let row : take (k + 1) all ≡ take k all ++ get_or all k d ∷ [] = ap (λ i. take i all) one ∙ take-suc all k d lt in
    let taken : length (take k all) ≡ k = length-take-le k all (omega arith) in
    subst (λ (cs : List Call). Answered z cs (xs ++ x ∷ []) p r) (sym row) (answered_snoc z (take k all) xs (get_or all k d) x p q r (len ∙ sym taken) h c)

-- the first calls of a list, answered
pub answered_so_far : (z : Opening) (all : List Call) (k : ℕ) (xs : List Answer) (p q : Holding) → Answered z (take k all) xs p q → Answered z all xs p q
answered_so_far z all k xs p q h = subst (λ (cs : List Call). Answered z cs xs p q) (take-append-drop k all) (answered_more z (take k all) (drop k all) xs p q h)

all_driven_snoc : {L : Type 0} (z : Opening) (ws : List (Work L)) (ds : List (Worked L)) (w : Work L) (d : Worked L) → AllDriven z ws ds → Driven z w d → AllDriven z (ws ++ w ∷ []) (ds ++ d ∷ [])
all_driven_snoc z [] [] w d h k = (k, tt)
all_driven_snoc z [] (y ∷ ys) w d h k = absurd h
all_driven_snoc z (x ∷ xs) [] w d h k = absurd h
all_driven_snoc z (x ∷ xs) (y ∷ ys) w d h k = (h.0, all_driven_snoc z xs ys w d h.1 k)

-- one work more, of a row of jobs
pub driven_next : {L J : Type 0} (f : J → Work L) (z : Opening) (js all : List J) (ds more : List (Worked L)) (j : J) (d : Worked L) → all ≡ js ++ j ∷ [] → more ≡ ds ++ d ∷ []
    → AllDriven z (map f js) ds → Driven z (f j) d → AllDriven z (map f all) more
driven_next f z js all ds more j d e m h k =
    subst (λ ws. AllDriven z ws more) (sym (ap (map f) e ∙ map-append f js (j ∷ [])))
    (subst (λ ys. AllDriven z (map f js ++ f j ∷ []) ys) (sym m) (all_driven_snoc z (map f js) ds (f j) d h k))

-- what holds of all holds of the one that was taken from the end, if there was one, and of those that are left
pub last_kept : {X : Type 0} (P : X → Type 0) (all rest : List X) (o : Option X) → All P all → all ≡ rest ++ option_to_list o → IfSome o P
last_kept P all rest (Some x) h e = all_last P rest x (subst (All P) e h)
last_kept P all rest None h e = tt

pub rest_kept : {X : Type 0} (P : X → Type 0) (all rest : List X) (o : Option X) → All P all → all ≡ rest ++ option_to_list o → All P rest
rest_kept P all rest (Some x) h e = all_front P rest x (subst (All P) e h)
rest_kept P all rest None h e = subst (All P) (e ∙ append-nil rest) h

-- a row that has one more at its end
pub longer_by_one : {X : Type 0} (all rest : List X) (x : X) → all ≡ rest ++ x ∷ [] → length all ≡ length rest + 1
longer_by_one all rest x e = ap length e ∙ length_push rest x

-- a row that is moved over from the end of another
pub moved_back : {X Y : Type 0} (f : X → Y) (all rest : List X) (x : X) (before : List Y) → all ≡ rest ++ x ∷ []
    → (before ++ f x ∷ []) ++ reverse (map f rest) ≡ before ++ reverse (map f all)
moved_back f all rest x before e =
    append_assoc before (f x ∷ []) (reverse (map f rest)) ∙ ap (λ ys. before ++ ys)
    (sym (reverse-append (map f rest) (f x ∷ [])) ∙ ap reverse (sym (ap (map f) e ∙ map-append f rest (x ∷ []))))

pub moved_on : {X Y : Type 0} (f : X → Y) (all rest : List Y) (y : Y) (xs more : List X) (x : X) (whole : List Y) → all ≡ rest ++ y ∷ [] → more ≡ xs ++ x ∷ [] → f x ≡ y
    → all ++ reverse (map f xs) ≡ whole → rest ++ reverse (map f more) ≡ whole
moved_on f all rest y xs more x whole e m same h =
    ap (λ zs. rest ++ reverse zs) (ap (map f) m ∙ map-append f xs (x ∷ [])) ∙ (ap (λ zs. rest ++ zs) (reverse-append (map f xs) (f x ∷ []))
    ∙ (ap (λ z. rest ++ (z ∷ reverse (map f xs))) same ∙ (sym (append_assoc rest (y ∷ []) (reverse (map f xs))) ∙ (ap (λ zs. zs ++ reverse (map f xs)) (sym e) ∙ h))))

map-reverse : {X Y : Type 0} (f : X → Y) (xs : List X) → map f (reverse xs) ≡ reverse (map f xs)
map-reverse f [] = refl
map-reverse f (x ∷ xs) =
    ap (map f) (reverse-cons x xs) ∙ (map-append f (reverse xs) (x ∷ []) ∙ (ap (λ ys. ys ++ f x ∷ []) (map-reverse f xs) ∙ sym (reverse-cons (f x) (map f xs))))

pub moved_all : {X Y : Type 0} (f : X → Y) (left : List Y) (o : Option Y) (xs more : List X) (whole : List Y) → ((y : Y) → o ≡ Some y → ⊥) → IfNone o (left ≡ []) → more ≡ reverse xs
    → left ++ reverse (map f xs) ≡ whole → map f more ≡ whole
moved_all f left (Some y) xs more whole not_some none m h = absurd (not_some y refl)
moved_all f left None xs more whole not_some none m h =
    ap (map f) m ∙ (map-reverse f xs ∙ (ap (λ ys. ys ++ reverse (map f xs)) (sym none) ∙ h))

-- what holds of all works holds of the jobs that have them
pub all_of_map : {X Y : Type 0} (f : X → Y) (P : Y → Type 0) (xs : List X) (ys : List Y) → map f xs ≡ ys → All P ys → All (λ x. P (f x)) xs
all_of_map f P [] ys e h = All-nil (λ x. P (f x))
all_of_map f P (x ∷ xs) ys e h =
    let all : All P (f x ∷ map f xs) = subst (All P) (sym e) h in
    All-cons (λ x. P (f x)) x xs (All-head P (f x) (map f xs) all) (all_of_map f P xs (map f xs) refl (All-tail P (f x) (map f xs) all))

-- what holds of both holds of all
pub all_of_two : {X : Type 0} (P : X → Type 0) (x y : X) (xs : List X) → xs ≡ x ∷ y ∷ [] → P x → P y → All P xs
all_of_two P x y xs e h k = subst (All P) (sym e) (All-cons P x (y ∷ []) h (All-cons P y [] k (All-nil P)))

-- no call changes the number of its pass
given_up_on : (z : Opening) (c : MonitorCall) (f : LiveFault) (p q : Holding) → GivenUpOn z c f p q → q.words.index ≡ p.words.index
given_up_on z c fault.Backwards p q h = h.1.went.index
given_up_on z c fault.RecordFull p q h = h.1.went.index
given_up_on z c fault.Torn p q h = h.1.went.index
given_up_on z c fault.NoObject p q h = ap (λ (r : Holding). r.words.index) h.1
given_up_on z c fault.NoThread p q h = h.1.went.index

given_up_about : (z : Opening) (c : InterruptCall) (f : LiveFault) (p q : Holding) → GivenUpAbout z c f p q → q.words.index ≡ p.words.index
given_up_about z c fault.Backwards p q h = h.1.went.index
given_up_about z c fault.RecordFull p q h = h.1.went.index
given_up_about z c fault.Torn p q h = h.1.went.index
given_up_about z c fault.NoObject p q h = h.1.went.index
given_up_about z c fault.NoThread p q h = ap (λ (r : Holding). r.words.index) h.1

number_kept : (z : Opening) (s : Subject) (x : Answer) (p q : Holding) → CalledFor z s x p q → q.words.index ≡ p.words.index
number_kept z (Monitor c) (Ok r) p q h = h.1.index
number_kept z (Monitor c) (Err f) p q h = given_up_on z c f p q h
number_kept z (Interrupt c) (Ok r) p q h = h.1.index
number_kept z (Interrupt c) (Err f) p q h = given_up_about z c f p q h
number_kept z End x p q h = absurd h

numbers_kept : (z : Opening) (cs : List Call) (xs : List Answer) (p q : Holding) → Answered z cs xs p q → q.words.index ≡ p.words.index
numbers_kept z cs [] p q h = ap (λ (r : Holding). r.words.index) h
numbers_kept z [] (x ∷ xs) p q h = absurd h
numbers_kept z (c ∷ cs) (x ∷ xs) p q h = numbers_kept z cs xs h.0 q h.2 ∙ number_kept z (subject_of c) x p h.0 h.1

-- the passes of works that were driven belong where they did, under the same numbers
pub driven_here : {L : Type 0} (z : Opening) (ws : List (Work L)) (ds : List (Worked L)) → AllDriven z ws ds → All (λ d. d.pass.words.opening ≡ z) ds
driven_here z [] [] h = All-nil (λ d. d.pass.words.opening ≡ z)
driven_here z [] (d ∷ ds) h = absurd h
driven_here z (w ∷ ws) [] h = absurd h
driven_here z (w ∷ ws) (d ∷ ds) h = All-cons (λ d. d.pass.words.opening ≡ z) d ds h.0.0 (driven_here z ws ds h.1)

pub driven_numbers : {L : Type 0} (z : Opening) (ws : List (Work L)) (ds : List (Worked L)) → AllDriven z ws ds → map (λ d. d.pass.words.index) ds ≡ map (λ w. w.pass.words.index) ws
driven_numbers z [] [] h = refl
driven_numbers z [] (d ∷ ds) h = absurd h
driven_numbers z (w ∷ ws) [] h = absurd h
driven_numbers z (w ∷ ws) (d ∷ ds) h =
    let one : d.pass.words.index ≡ w.pass.words.index = numbers_kept z w.calls.items d.answers.items w.pass d.pass h.0.1 in
    ap (λ n. n ∷ map (λ d. d.pass.words.index) ds) one ∙ ap (λ ns. w.pass.words.index ∷ ns) (driven_numbers z ws ds h.1)
