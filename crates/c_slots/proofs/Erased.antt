-- The functions of a struct that is stored as a box is, but with an erased pointer, such as C may keep.
--     moved     a function that takes one such value apart, and makes another of its two fields, which owns the same
--     emptied   a function that makes one of the null pointer, which owns nothing
use mathlib.Core.Path.{◌≡◌, refl, sym, subst}
use mathlib.Core.List.{List, [], ◌∷◌, ◌++◌}
use Prim.Native.Nat.{ℕ}
use lib.Dec.{T}
use seplogic.Ra.Ura.{Ura}
use mir.Syntax.{Fn, Ty, ty_struct, ty_ptr, tnil, tcons, local, value_local, place, field, copy, int, w64, rv_opd, aggregate, assign, seq, return, impl, dnil}
use mir.Val.{Val, vstruct, vcons, vnil, has_ty, WT}
use base.Logic.{SProp, ent, emp}
use base.Fml.{Fml, ftrue, fsep}
use prog.Wp.{Closed, WpFn, Tables}
use prog.Model.{Model}
use prog.Routine.{Callee}
use types.Logic.{Logic}
use contract.Monad.{fact, fact_i}
use contract.Running.{Running, tables, tables_of}
use sound.WpLaws.{WpFn-mono}
use types.Kit.{Item, ‵, raw, ◌⊛◌, ◌$◌, ◌∵◌, !, qed, by, move, drop, use1, join, split, fsplit, fjoin, fpack, feq_i, suffices, rewrite, done}
use types.Part.{whole, sub, agg}
use types.Run.{lit, stop, fld, no_more, and_then, of_opd, returns, enter}
use types.ByLocal.{alloc_all, pass_all, free_all, look_at, get, get_in, sets}
use denote.Builtin.{RawPtr}
use denote.RattleType.{RattleType, Valss}
use denote.RawPtr.{Ptr, block_ptr, null_ptr, ptr_val}
use denote.Exit.{Last, yes}
use denote.Param.Laws.{Laws}
use denote.Signature.{Signature, plain}
use denote.Steps.{nothing, heard}
use denote.Struct.Struct.{within}
use denote.Struct.Owning.{shape, to}
use denote.Triple.Clauses.{Ended, Clauses, closing}
use denote.Triple.Spec.{Meets, triple_of}
use denote.Triple.Table.{entered}
use denote.Triple.Walked.{says, Stays, Silent, stay_dropped, walk_of, ends_at, Goes-dropped, walk_Meets}
use Rattle.std.proofs.Common.{arith, true≢false}
use Rattle.std.specs.Prelude.{IsSome}
use Rattle.std.specs.declared.option.Option.{Option}
use Rattle.std.specs.declared.option.Option.TheVariants.{None, Some}
use Rattle.core.proofs.alloc.Calls.{α, Fits, handle_tells}
use Rattle.std_alloc.proofs.ResultValues.{and_tt}
use Rattle.std_alloc.proofs.BoxSteps.Form.{Bx, D, R, P, B, box_ty, word, box_typed}
use Rattle.std_alloc.proofs.BoxSteps.Steps.{box_out, box_in}
use Rattle.std_heap.specs.contracts.Global as Heap
use Rattle.std_heap.specs.contracts.GlobalAllocator.TheImpl.{ghosts, dict}
use Rattle.std_heap.proofs.Global.TheLaws as heap
use Rattle.c_slots.specs.contracts.maybe.MaybeParts as maybe

-- a box on the heap
abbrev pub on_heap : (X : RattleType) → Laws X → Bx
on_heap X laws = record {
  row = X;
  laws = laws;
  al = record { row = Heap.the_row; laws = heap.the_row_laws; g = ghosts; d = dict; drops = impl [] tnil dnil };
}

-- a pointer and the handle of an allocator, as one machine value
abbrev pub both : Ptr → Val → Val
both p h = vstruct (vcons (ptr_val p) (vcons h vnil))

pub both_typed : (E : Bx) (p : Ptr) (h : Val) → Fits E.al h → T (has_ty (box_ty E) (both p h)) × WT (both p h)
both_typed E (block_ptr b o) h fa = (and_tt (has_ty (α E.al) h) fa.0, (tt, (fa.1, tt)))
both_typed E null_ptr h fa = (and_tt (has_ty (α E.al) h) fa.0, (record { fits = omega arith }, (fa.1, tt)))

-- the value that there is
pub some_is : {X : Type 0} (o : Option X) → IsSome o → (x : X) × (o ≡ Some x)
some_is None p = absurd (true≢false (sym p))
some_is (Some x) p = (x, refl)

-- a function that asks nothing
pub asks_nothing : {M : Type 1} (𝓤 : Ura M) → ent 𝓤 (emp 𝓤) (fact 𝓤 (Unit {0}))
asks_nothing 𝓤 = fact_i 𝓤 (Unit {0}) (emp 𝓤) tt

module _ (E : Bx) where
  -- the type of a struct with this name, as machine code has it
  abbrev pub struct_ty : List ℕ → Ty
  struct_ty name = ty_struct name (tcons ty_ptr (tcons (α E.al) tnil))

  -- the code of a function that makes the struct of one name from the fields of the other
  abbrev pub moving : List ℕ → List ℕ → Fn
  moving new old = record {
    lifetimes = 0;
    outlives = [];
    ty_params = [];
    givens = 0;
    params = 1;
    locals =
        local (struct_ty new) value_local ∷ local (struct_ty old) value_local ∷ local ty_ptr value_local
        ∷ local (α E.al) value_local ∷ local ty_ptr value_local ∷ [];
    body =
        seq (assign (place 2 []) (rv_opd (copy (place 1 (field 0 ∷ [])))))
        (seq (assign (place 3 []) (rv_opd (copy (place 1 (field 1 ∷ [])))))
        (seq (assign (place 4 []) (rv_opd (copy (place 2 []))))
        (seq (assign (place 0 []) (aggregate (copy (place 4 []) ∷ copy (place 3 []) ∷ []))) return)));
  }

  module _ (Old New : RattleType) where
    abbrev pub signature : Signature
    signature = record { lifetimes = 0; outlives = []; params = plain (λ _. Old) ∷ []; result = plain (λ _. New) }

    abbrev pub ended : Ended
    ended = record { signature = signature; kept = (yes, tt) }

    abbrev stayed : Stays ended.signature.params ended.kept
    stayed = (stay_dropped (plain (λ _. Old)) yes, tt)

    -- a box that owns what the old value does, and a new value that owns the same
    pub record Moves (told : Old.Denot → New.Denot → Type 0) (d : Old.Denot) : Type 1 where
      pub box : D E
      pub made : New.Denot
      pub old_owns : (vs : List Val) → (B E).own_val box vs ≡ Old.own_val d vs
      pub new_owns : (vs : List Val) → New.own_val made vs ≡ (B E).own_val box vs
      pub right : told d made

    module _ (asked : Old.Denot → Type 0) (told : Old.Denot → New.Denot → Type 0) {M : Type 1} {𝓤 : Ura M} (𝓛 : Logic 𝓤)
        (pre : Old.Denot → SProp 𝓤) (pre_tells : (d : Old.Denot) → ent 𝓤 (pre d) (fact 𝓤 (asked d))) (makes : (d : Old.Denot) → asked d → Moves told d) (last : (d : Old.Denot) → Last (Old.exit yes) d) where
      open 𝓛 use {H}

      abbrev clauses : Clauses 𝓤 ended
      clauses κs a = record { ghost = Unit {0}; requires = λ g. pre a.0; ensures = λ g r e. fact 𝓤 (told a.0 r) }

      module _ (new old : List ℕ) (𝓣 : Tables 𝓤 𝓛.H) where
        walk : (z : (walk_of 𝓛 ended stayed clauses).Ghost)
            → ent 𝓤 ((walk_of 𝓛 ended stayed clauses).pre z) (WpFn 𝓤 H 𝓣.C 𝓣.Λ (moving new old) (z.0.4.0 ++ []) ((walk_of 𝓛 ended stayed clauses).post z))
        walk z =
            let Post = (walk_of 𝓛 ended stayed clauses).post z in
            let d = z.0.3.0 in
            qed 𝓛 ((‵ ftrue ⊛ ‵ (fsep (Old.own_val d z.0.4.0) ftrue)) ∷ raw (pre d) ∷ []) ∵ move ! (1 ∷ []) $ use1 𝓛 (raw (fact 𝓤 (asked d))) (pre_tells d) $ heard ! (asked d) (λ met.
            let m = makes d met in
            split ! $ drop ! $ fsplit ! $ rewrite ! 0 (λ (P : Fml). ‵ P) (sym (m.old_owns z.0.4.0)) refl $
            box_out E ! m.box z.0.4.0 (λ b o hv e ws fa. box_in E ! m.box b o m.box.value e refl $ move ! (1 ∷ []) $ drop ! $
            let w = word E hv b o in
            rewrite ! 0 (λ (P : Fml). ‵ P) (sym (m.new_owns (w ∷ []))) refl $
            let Γ : List (Item 𝓤) = ‵ (New.own_val m.made (w ∷ [])) ∷ [] in
            by ! (subst (λ (us : List Val). ent 𝓤 (types.Kit.⋆ 𝓛 Γ) (WpFn 𝓤 H 𝓣.C 𝓣.Λ (moving new old) (us ++ []) Post)) (sym ws)
            (qed 𝓛 Γ ∵ enter ! 𝓣.C 𝓣.Λ (moving new old) (w ∷ []) _ $ alloc_all ! (λ ls. pass_all ! refl (box_typed E hv b o fa, tt) $
            sets ! (of_opd ! (get_in ! (fld ! refl (stop !)) (sub ! 0 refl (whole !)))) refl (tt, tt) $ sets ! (of_opd ! (get_in ! (fld ! refl (stop !)) (sub ! 1 refl (whole !)))) refl fa $
            sets ! (of_opd ! (get ! refl)) refl (tt, tt) $ sets ! (agg ! (and_then ! (get ! refl) (and_then ! (get ! refl) (no_more !)))) refl (box_typed E hv b o fa) $ returns ! (look_at ! 0 refl) $ free_all ! refl $
            suffices ! _ (ends_at 𝓛 ended stayed clauses z w m.made (last d, tt) (tt, tt)) $ says ! m.right $
            nothing ! $ nothing ! $ fjoin ! $ join ! $ nothing ! $ join ! $ done !)))))

      pub moved : (new old : List ℕ) → Silent 𝓛 0 (plain (λ _. Old)) yes → (𝓜 : Model 𝓤 𝓛.H) (𝓡 : Running 𝓤 𝓛.H 𝓜) (k : Callee)
          → Closed 𝓤 𝓛.H (tables 𝓤 𝓛.H 𝓜 𝓡 𝓡.env).C (tables 𝓤 𝓛.H 𝓜 𝓡 𝓡.env).Λ k (moving new old) → Meets 𝓛 signature (𝓡.run (𝓡.env k)) (closing 𝓛 ended clauses)
      unfolding tables_of
      moved new old silent 𝓜 𝓡 k closed =
          let 𝓣 : Tables 𝓤 𝓛.H = tables_of 𝓤 𝓛.H 𝓜 (tables 𝓤 𝓛.H 𝓜 𝓡 𝓡.env) in
          entered 𝓤 𝓛.H (triple_of 𝓛 signature (closing 𝓛 ended clauses)) 𝓣.C 𝓣.Λ k (moving new old) closed
          (walk_Meets 𝓛 ended stayed (Goes-dropped 𝓛 0 (plain (λ _. Old)) yes silent, tt) clauses (WpFn 𝓤 𝓛.H 𝓣.C 𝓣.Λ (moving new old)) (WpFn-mono 𝓤 𝓛.H 𝓛.laws 𝓣 (moving new old))
          (walk new old 𝓣))

  -- the code of a function that makes the struct of this name of a null pointer
  abbrev pub emptying : List ℕ → Fn
  emptying new = record {
    lifetimes = 0;
    outlives = [];
    ty_params = [];
    givens = 0;
    params = 1;
    locals = local (struct_ty new) value_local ∷ local (α E.al) value_local ∷ [];
    body = seq (assign (place 0 []) (aggregate (int w64 0 ∷ copy (place 1 []) ∷ []))) return;
  }

  module _ (New : RattleType) where
    abbrev pub of_handle : Signature
    of_handle = record { lifetimes = 0; outlives = []; params = plain (λ _. E.al.row) ∷ []; result = plain (λ _. New) }

    abbrev pub of_handle_ended : Ended
    of_handle_ended = record { signature = of_handle; kept = (yes, tt) }

    abbrev of_handle_stayed : Stays of_handle_ended.signature.params of_handle_ended.kept
    of_handle_stayed = (stay_dropped (plain (λ _. E.al.row)) yes, tt)

    abbrev Empty : RattleType
    Empty = maybe.the_row (R E) (P E) E.al.g

    abbrev empty : E.al.row.Denot → Empty.Denot
    empty a = record { ptr = null_ptr; alloc = a; value = None }

    module _ (told : New.Denot → Type 0) {M : Type 1} {𝓤 : Ura M} (𝓛 : Logic 𝓤) (made : E.al.row.Denot → New.Denot) (right : (a : E.al.row.Denot) → told (made a))
        (owns : (a : E.al.row.Denot) (vs : List Val) → New.own_val (made a) vs ≡ Empty.own_val (empty a) vs) (last : (a : E.al.row.Denot) → Last (E.al.row.exit yes) a) where
      open 𝓛 use {H}

      abbrev of_handle_clauses : Clauses 𝓤 of_handle_ended
      of_handle_clauses κs a = record { ghost = Unit {0}; requires = λ g. emp 𝓤; ensures = λ g r e. fact 𝓤 (told r) }

      module _ (new : List ℕ) (𝓣 : Tables 𝓤 𝓛.H) where
        empty_walk : (z : (walk_of 𝓛 of_handle_ended of_handle_stayed of_handle_clauses).Ghost)
            → ent 𝓤 ((walk_of 𝓛 of_handle_ended of_handle_stayed of_handle_clauses).pre z) (WpFn 𝓤 H 𝓣.C 𝓣.Λ (emptying new) (z.0.4.0 ++ []) ((walk_of 𝓛 of_handle_ended of_handle_stayed of_handle_clauses).post z))
        empty_walk z =
            let Post = (walk_of 𝓛 of_handle_ended of_handle_stayed of_handle_clauses).post z in
            let p : Ptr = null_ptr in let a = z.0.3.0 in
            qed 𝓛 ((‵ ftrue ⊛ ‵ (fsep ((P E).own_val a z.0.4.0) ftrue)) ∷ raw (emp 𝓤) ∷ []) ∵ split ! $ drop ! $ fsplit ! $
            handle_tells E.al ! a z.0.4.0 (λ h ea fa. move ! (1 ∷ 2 ∷ []) $ drop ! $ drop ! $
            let w = both p h in
            let Γ : List (Item 𝓤) = ‵ ((P E).own_val a (h ∷ [])) ∷ [] in
            by ! (subst (λ (us : List Val). ent 𝓤 (types.Kit.⋆ 𝓛 Γ) (WpFn 𝓤 H 𝓣.C 𝓣.Λ (emptying new) us Post)) (sym (λ i. ea i ++ []))
            (qed 𝓛 Γ ∵ enter ! 𝓣.C 𝓣.Λ (emptying new) (h ∷ []) _ $ alloc_all ! (λ ls. pass_all ! refl (fa, tt) $
            sets ! (agg ! (and_then ! (lit ! tt) (and_then ! (get ! refl) (no_more !)))) refl (both_typed E p h fa) $ returns ! (look_at ! 0 refl) $ free_all ! refl $
            nothing ! $ nothing ! $ move ! (2 ∷ 0 ∷ []) $ fjoin ! $ feq_i ! (List Val) (ptr_val p ∷ []) (ptr_val p ∷ []) refl $ fjoin ! $ feq_i ! (List Val) (w ∷ []) (w ∷ []) refl $ fjoin ! $
            fpack ! (Valss (RawPtr ∷ P E ∷ [])) (within (shape (maybe.the_type (R E) (P E) E.al.g)) (to (maybe.the_type (R E) (P E) E.al.g) (empty a)) (w ∷ [])) (ptr_val p ∷ [], (h ∷ [], tt)) $ fjoin ! $
            rewrite ! 0 (λ (Q : Fml). ‵ Q) (sym (owns a (w ∷ []))) refl $
            suffices ! _ (ends_at 𝓛 of_handle_ended of_handle_stayed of_handle_clauses z w (made a) (last a, tt) (tt, tt)) $ says ! (right a) $
            nothing ! $ nothing ! $ fjoin ! $ join ! $ nothing ! $ join ! $ done !))))

      pub emptied : (new : List ℕ) → Silent 𝓛 0 (plain (λ _. E.al.row)) yes → (𝓜 : Model 𝓤 𝓛.H) (𝓡 : Running 𝓤 𝓛.H 𝓜) (k : Callee)
          → Closed 𝓤 𝓛.H (tables 𝓤 𝓛.H 𝓜 𝓡 𝓡.env).C (tables 𝓤 𝓛.H 𝓜 𝓡 𝓡.env).Λ k (emptying new) → Meets 𝓛 of_handle (𝓡.run (𝓡.env k)) (closing 𝓛 of_handle_ended of_handle_clauses)
      unfolding tables_of
      emptied new silent 𝓜 𝓡 k closed =
          let 𝓣 : Tables 𝓤 𝓛.H = tables_of 𝓤 𝓛.H 𝓜 (tables 𝓤 𝓛.H 𝓜 𝓡 𝓡.env) in
          entered 𝓤 𝓛.H (triple_of 𝓛 of_handle (closing 𝓛 of_handle_ended of_handle_clauses)) 𝓣.C 𝓣.Λ k (emptying new) closed
          (walk_Meets 𝓛 of_handle_ended of_handle_stayed (Goes-dropped 𝓛 0 (plain (λ _. E.al.row)) yes silent, tt) of_handle_clauses (WpFn 𝓤 𝓛.H 𝓣.C 𝓣.Λ (emptying new)) (WpFn-mono 𝓤 𝓛.H 𝓛.laws 𝓣 (emptying new))
          (empty_walk new 𝓣))
