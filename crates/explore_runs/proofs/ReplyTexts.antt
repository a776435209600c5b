-- What the line of a thread tells of its replies.
use Rattle.std.proofs.Common.{◌≡◌, ◌∙◌, sym, ap, refl, ℕ, zero, suc, ◌+◌, ◌-◌, List, ◌++◌, take, drop, Option, Some, None, append-nil}
use Rattle.std.specs.Prelude.{slice_get}
use Rattle.std.specs.List.{filter_map, flat_map}
use Rattle.std.specs.Option.{option_to_list}
use Rattle.std.proofs.lemmas.Grind.{flat_map-append}
use Rattle.std.proofs.lemmas.List.Elements.{filter_map-append}
use Rattle.fat_monitor.specs.declared.actions.Reply.{Reply}
use Rattle.explore.specs.declared.programs.Program.{Program}
use Rattle.explore.specs.Replies.{replies_of}
use Rattle.explore.specs.States.{ProgramState, end_of, start_of}
use Rattle.explore_java.specs.JavaStates.{JavaProgramState}
use Rattle.explore_java.specs.JavaStates.{replies_of as java_replies_of}
use Rattle.explore_java.proofs.CallFronts.{get_behind, take_more}
use Rattle.explore_runs.specs.Outcomes.{replies_text, reply_text, reply_word}

abbrev there : List (Option Reply) → List Reply
there rs = filter_map (λ (r : Option Reply). r) rs

one_text : (o : Option (Option Reply)) → reply_text o ≡ flat_map reply_word (there (option_to_list o))
one_text None = refl
one_text (Some None) = refl
one_text (Some (Some r)) = sym (append-nil (reply_word r))

texts_from : (rs : List (Option Reply)) (m n : ℕ) → replies_text rs m n ≡ flat_map reply_word (there (take n (drop m rs)))
texts_from rs m zero = refl
texts_from rs m (suc n) =
    let behind : List (Option Reply) = drop m rs in
    let last : List (Option Reply) = option_to_list (slice_get behind n) in
    ap (λ (t : List ℕ). t ++ reply_text (slice_get rs (m + n))) (texts_from rs m n)
    ∙ ap (λ (o : Option (Option Reply)). flat_map reply_word (there (take n behind)) ++ reply_text o) (sym (get_behind rs m n))
    ∙ ap (λ (t : List ℕ). flat_map reply_word (there (take n behind)) ++ t) (one_text (slice_get behind n))
    ∙ sym (flat_map-append reply_word (there (take n behind)) (there last))
    ∙ ap (flat_map reply_word) (sym (filter_map-append (λ (r : Option Reply). r) (take n behind) last))
    ∙ ap (λ (xs : List (Option Reply)). flat_map reply_word (there xs)) (sym (take_more behind n))

-- It is the text of the replies that the state has for the thread's calls.
pub replies_told_of : (p : Program) (s : ProgramState) (k : ℕ)
    → replies_text s.replies (start_of p k) (end_of p k - start_of p k) ≡ flat_map reply_word (replies_of p s k)
replies_told_of p s k = texts_from s.replies (start_of p k) (end_of p k - start_of p k)

-- So it is on the Java machine.
pub java_replies_told_of : (p : Program) (t : JavaProgramState) (k : ℕ)
    → replies_text t.replies (start_of p k) (end_of p k - start_of p k) ≡ flat_map reply_word (java_replies_of p t k)
java_replies_told_of p t k = texts_from t.replies (start_of p k) (end_of p k - start_of p k)
