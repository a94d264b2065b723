-- What each change answers in each of its cases: a law a case, whose premises are the tests that lead there and what the callees answered.
use mathlib.Core.Path.{◌≡◌, refl, sym, ◌∙◌, ap}
use mathlib.Core.Bool.{Bool, true, false, cond, not}
use mathlib.Core.List.{List, [], ◌∷◌, ◌++◌, map-id}
use Prim.Native.Nat.{ℕ, ◌+◌, ◌≤◌, ◌<◌, ◌^◌}
use native.Mathlib.Numerals.{add-one}
use native.Mathlib.Omega.{arith}
use lib.IntN.{ℤ, pos, ◌+ℤ◌}
use lib.ListN.{length, get_or, take, set, replicate, length-append, length-take}
use lib.Seq.{take-suc-set, get_or-take}
use lib.Signed.{mag}
use mir.Syntax.{w32}
use mir.Val.{SFits, of_z}
use mir.Facts.{to_z-of_z}
use borrow.Author.Tests.{le-leb, lt-leb}
use Rattle.std.proofs.lemmas.Bool.Decides.{Decides-int_eq, same_from_decides}
use Rattle.std.specs.List.{list_any}
use Rattle.std.specs.Option.{SomeIff, ok_or}
use Rattle.std.specs.Ordering.{int_eq}
use Rattle.std.specs.Prelude.{Option, Some, None, Result, Err}
use Rattle.rules.proofs.KeptTest.{eq_z_is, eq_z-refl}
use Rattle.rules.proofs.Laws.{by_case}
use Rattle.rules.specs.Limits.{member_limit}
use Rattle.rules.specs.Refusals.{wrong_kind, seventh_member}
use Rattle.rules.specs.Values as S
use Rattle.rules.specs.Values.{eq_z, fits32, kind_of_field, values_of}
use Rattle.rules.specs.Changes as C
use Rattle.rules.specs.Changes.{Kind, kind_of, kind_number, change, put_last, member, pull_all, becomes, fails}
use Rattle.lists.specs.Table.{counted, table_form}
use Rattle.lists.proofs.Forms.{form_push, form_parts}
use Rattle.lists.proofs.Sift.{Sifting, sift_start, sift_in, sift_out, sift_done}
use Rattle.field.specs.declared.Field.{Field}
use Rattle.field.specs.declared.Misfit.{Misfit}
use Rattle.field.specs.declared.Misfit.TheVariants.{WrongKind, SumTooLarge}
use Rattle.field.specs.View.{view_field, view_misfit, field_form}
use Rattle.field.proofs.Signed.{held, held_is, fits_are, fits_not, bits_same, bits_other}
use Rattle.field.proofs.ViewLaws.{members, view_absent, view_number_lem, view_list, by_kind, first_values, few, form_of, is_form}

abbrev list_of : ℕ → List ℤ → Field
list_of n l = record { kind = 2; count = n; values = l }

list_view : (n : ℕ) (l : List ℤ) → view_field (list_of n l) ≡ S.list (take n l)
unfolding view_field
list_view n l = refl

-- ── what a change makes of a value that is no number: absent is as the empty list ──
module _ (v : ℤ) where
  push_is : (g : S.Field) → (kind_of_field g ≡ 1 → ⊥) → change C.push v g ≡ put_last v (values_of g)
  unfolding change put_last
  push_is S.absent n = refl
  push_is (S.number z) n = absurd (n refl)
  push_is (S.list l) n = refl

  add_is : (g : S.Field) → (kind_of_field g ≡ 1 → ⊥) → change C.add v g ≡ cond (member v (values_of g)) (becomes g) (put_last v (values_of g))
  unfolding change put_last member
  add_is S.absent n = refl
  add_is (S.number z) n = absurd (n refl)
  add_is (S.list l) n = refl

  pull_is : (g : S.Field) → (kind_of_field g ≡ 0 → ⊥) → (kind_of_field g ≡ 1 → ⊥) → change C.pull v g ≡ becomes (S.list (pull_all v (values_of g)))
  unfolding change
  pull_is S.absent m n = absurd (m refl)
  pull_is (S.number z) m n = absurd (n refl)
  pull_is (S.list l) m n = refl

-- the code's search for a value is the rules'
eq_is : (x v : ℤ) → int_eq x v ≡ eq_z x v
eq_is x v = same_from_decides (int_eq x v) (eq_z x v) (Decides-int_eq x v) (eq_z_is x v, λ e. rw e (eq_z-refl v))

contains_is : (v : ℤ) (l : List ℤ) → list_any (λ x. int_eq x v) l ≡ member v l
unfolding member
contains_is v [] = refl
contains_is v (x ∷ l) = rw eq_is (by_case (eq_z x v) (λ t. rw t refl) (λ t. rw t (contains_is v l)))

module _ (f : Field) (v : ℤ) where
  no_number : (f.kind ≡ 1 → ⊥) → kind_of_field (view_field f) ≡ 1 → ⊥
  no_number n =
      by_kind f (λ a e. omega (arith, rw (view_absent f a) at e)) (λ b. absurd (n b))
      (λ m o e. omega (arith, rw (view_list f m o) at e))

  -- ── inc ──
  pub inc_absent : (r : Field) → SFits w32 v → f.kind ≡ 0 → view_field r ≡ S.number (held v) → becomes (view_field r) ≡ change C.inc v (view_field f)
  unfolding change
  inc_absent r w h e = rw (view_absent f h, e, to_z-of_z w)

  pub inc_list : (f.kind ≡ 0 → ⊥) → (f.kind ≡ 1 → ⊥) → fails wrong_kind ≡ change C.inc v (view_field f)
  unfolding change
  inc_list n m = rw (view_list f n m)

  abbrev first : ℤ
  first = get_or f.values 0 (pos 0)

  -- o is the sum of the field's number and v, each as a local holds it, where it has 32 bits
  module _ (o : Option ℤ) (wv : SFits w32 v) (wx : mag first < 2 ^ 31) (e : SomeIff o (SFits w32 (held first +ℤ held v)) (held first +ℤ held v)) (m : f.kind ≡ 1) where
    sum_is : SomeIff o (SFits w32 (first +ℤ v)) (first +ℤ v)
    sum_is = rw (held_is first wx, to_z-of_z wv) at e

    pub inc_over : (c : Misfit) → ◌≡◌ {A = Result ℤ Misfit} (Err c) (ok_or o SumTooLarge) → fails (view_misfit c) ≡ change C.inc v (view_field f)
    unfolding change
    inc_over c q = go o sum_is q
      where
        go : (o : Option ℤ) → SomeIff o (SFits w32 (first +ℤ v)) (first +ℤ v) → ◌≡◌ {A = Result ℤ Misfit} (Err c) (ok_or o SumTooLarge) → fails (view_misfit c) ≡ change C.inc v (view_field f)
        go None n r = let k : c ≡ SumTooLarge = cc in rw (k, view_number_lem f m, fits_not _ n)
        go (Some s) n r = cc

    pub inc_sum : (s : ℤ) (r : Field) → o ≡ Some s → view_field r ≡ S.number (held s) → becomes (view_field r) ≡ change C.inc v (view_field f)
    unfolding change
    inc_sum s r q h =
        let k : SFits w32 (first +ℤ v) × (s ≡ first +ℤ v) = rw q at sum_is in
        rw (view_number_lem f m, fits_are _ k.0, h, k.1, to_z-of_z k.0)

  -- ── a number is no list ──
  pub push_number : (c : Misfit) → f.kind ≡ 1 → c ≡ WrongKind → fails (view_misfit c) ≡ change C.push v (view_field f)
  unfolding change
  push_number c h e = rw (view_number_lem f h, e)

  pub add_number : (c : Misfit) → f.kind ≡ 1 → c ≡ WrongKind → fails (view_misfit c) ≡ change C.add v (view_field f)
  unfolding change
  add_number c h e = rw (view_number_lem f h, e)

  pub pull_number : f.kind ≡ 1 → fails wrong_kind ≡ change C.pull v (view_field f)
  unfolding change
  pull_number h = rw (view_number_lem f h)

  -- ── push: l is the list of the values that count ──
  module _ (l : List ℤ) (e : l ≡ members f) where
    pub push_full : (f.kind ≡ 1 → ⊥) → member_limit ≤ length l → fails seventh_member ≡ change C.push v (view_field f)
    unfolding put_last
    push_full m h = sym (push_is v (view_field f) (no_number m) ∙ simp (← e, le-leb _ _ h))

    module _ (w : SFits w32 v) (k : length f.values ≡ member_limit) (h : length l < member_limit) where
      pushed : view_field (list_of (length l + 1) (set f.values (length l) (held v))) ≡ S.list (members f ++ (v ∷ []))
      pushed =
          let p : take (length l) f.values ≡ members f = rw e (first_values f k) in
          list_view (length l + 1) (set f.values (length l) (held v))
          ∙ ap S.list (rw (add-one (length l), to_z-of_z w) (take-suc-set f.values (length l) v (omega arith) ∙ ap (λ x. x ++ (v ∷ [])) p))

      pub push_room : (f.kind ≡ 1 → ⊥) → becomes (view_field (list_of (length l + 1) (set f.values (length l) (held v)))) ≡ change C.push v (view_field f)
      unfolding put_last
      push_room m = ap becomes pushed ∙ sym (push_is v (view_field f) (no_number m) ∙ simp (← e, lt-leb _ _ h))

      pub push_form : field_form f ≡ true → field_form (list_of (length l + 1) (set f.values (length l) (held v))) ≡ true
      push_form j =
          let t = rw ((form_of j).count, ← e) at (form_of j).table in
          is_form (record {
            kind = rw pushed;
            count = rw (pushed, e) (simp length-append (omega arith));
            table = form_push member_limit fits32 (eq_z (pos 0)) (length l) f.values (held v) h (rw (to_z-of_z w) (fits_are v w)) t;
          })

  -- ── add: t is what the search for v answered ──
  module _ (l : List ℤ) (e : l ≡ members f) (t : Bool) (w : SFits w32 v) (m : f.kind ≡ 1 → ⊥) (a : t ≡ list_any (λ x. int_eq x (held v)) l) where
    at_v : t ≡ member v (members f)
    at_v = a ∙ rw (to_z-of_z w, e) (contains_is v (members f))

    pub add_member : t ≡ true → becomes (view_field f) ≡ change C.add v (view_field f)
    add_member h = sym (add_is v (view_field f) (no_number m) ∙ rw (← at_v, h))

    pub add_new : {o : C.Outcome} → t ≡ false → o ≡ change C.push (held v) (view_field f) → o ≡ change C.add v (view_field f)
    add_new h q =
        rw (to_z-of_z w) at q
        ∙ push_is v (view_field f) (no_number m)
        ∙ sym (add_is v (view_field f) (no_number m) ∙ rw (← at_v, h))

  -- ── pull ──
  pub pull_none : f.kind ≡ 0 → becomes (view_field f) ≡ change C.pull v (view_field f)
  unfolding change
  pull_none a = rw (view_absent f a)

  pub pull_some : (r : Field) → SFits w32 v → (f.kind ≡ 0 → ⊥) → (f.kind ≡ 1 → ⊥) → view_field r ≡ S.list (pull_all (held v) (members f)) → becomes (view_field r) ≡ change C.pull v (view_field f)
  pull_some r w n m q =
      ap becomes (rw (to_z-of_z w) at q) ∙ sym (pull_is v (view_field f) (λ e. omega (arith, rw (view_list f n m) at e)) (no_number m))

-- ── the change of a number ──
module _ (f : Field) (kind : ℕ) (v : ℤ) where
  pub changed_set : (r : Field) → SFits w32 v → kind ≡ 1 → view_field r ≡ S.number (held v) → becomes (view_field r) ≡ change (kind_of kind) v (view_field f)
  unfolding change
  changed_set r w k e = rw (k, e, to_z-of_z w)

  pub changed_unset : (r : Field) → kind ≡ 2 → view_field r ≡ S.absent → becomes (view_field r) ≡ change (kind_of kind) v (view_field f)
  unfolding change
  changed_unset r k e = rw (k, e)

-- ── the members that do not equal v, put into a new table one by one ──
-- the first i of the members have been looked at, and m of them are in the table vs
abbrev pub Pulling : ℤ → Field → ℕ → List ℤ → ℕ → Type 0
Pulling v f = Sifting (λ x. x) (λ x. not (eq_z x v)) member_limit fits32 (eq_z (pos 0)) (length (members f)) f.values

module _ (f : Field) (v : ℤ) (w : SFits w32 v) (l : length f.values ≡ member_limit) where
  few_values : length (members f) ≤ member_limit
  few_values = omega (arith, few f l)

  pub pull_start : Pulling (held v) f 0 (replicate member_limit (pos 0)) 0
  unfolding counted table_form
  pull_start = sift_start 0 (replicate member_limit (pos 0)) l refl refl refl

  module _ {m : ℕ} {vs : List ℤ} {i : ℕ} (inv : Pulling (held v) f m vs i) where
    module _ {xs : List ℤ} (e : xs ≡ members f) (h : i < length xs) (k : mag (get_or xs i (pos 0)) < 2 ^ 31) where
      here : get_or f.values i (pos 0) ≡ get_or xs i (pos 0)
      here = sym (get_or-take (length (members f)) f.values i (pos 0) (rw e at h)) ∙ rw (first_values f l, e)

      pub pull_out : of_z w32 (get_or xs i (pos 0)) ≡ of_z w32 v → Pulling (held v) f m vs (i + 1)
      pull_out q = sift_out inv (pos 0) (omega (arith, few_values, ap length e)) (rw (here, to_z-of_z w, bits_same (get_or xs i (pos 0)) v k w q))

      -- one more in the table, which has room
      pub pull_in : {n : ℕ} {zs : List ℤ} → (of_z w32 (get_or xs i (pos 0)) ≡ of_z w32 v → ⊥) → (m < length vs → n ≡ m + 1) → (m < length vs → zs ≡ set vs m (held (get_or xs i (pos 0)))) → Pulling (held v) f n zs (i + 1)
      pull_in q a b =
          let r : m < length vs = omega (arith, few_values, ap length e, inv.few, inv.long) in
          rw (a r, b r, held_is (get_or xs i (pos 0)) k, ← here)
          (sift_in inv (pos 0) (omega (arith, few_values, ap length e)) (rw (here, to_z-of_z w, bits_other (get_or xs i (pos 0)) v k w q)))

    module _ (h : length (members f) ≤ i) where
      pub pulled : view_field (list_of m vs) ≡ S.list (pull_all v (members f))
      unfolding counted
      pulled = list_view m vs ∙ ap S.list (rw (map-id vs, map-id f.values, to_z-of_z w, first_values f l) at (sift_done inv (omega (arith, few_values))))

      pub pulled_form : field_form f ≡ true → field_form (list_of m vs) ≡ true
      pulled_form k =
          let t = inv.form (rw (form_of k).count at (form_of k).table) in
          let p = form_parts member_limit fits32 (eq_z (pos 0)) m vs t in
          is_form {f = list_of m vs} (record {
            kind = rw (list_view m vs) refl;
            count = rw (list_view m vs, length-take) (omega (arith, p.within, p.long));
            table = t;
          })
