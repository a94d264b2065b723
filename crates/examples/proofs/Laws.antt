-- Laws of the first bytes that two lists have in common, of a byte that comes, and of what the lines are answered with.
use Prim.Native.Nat.{ℕ, suc, zero, ◌+◌, ◌-◌, ◌≤◌, ◌<◌}
use native.Mathlib.Numerals.{add-one}
use native.Mathlib.Omega.{arith}
use mathlib.Core.Path.{◌≡◌, refl, sym, ◌∙◌, ap, subst}
use mathlib.Core.Bool.{Bool, cond, not, ◌&&◌, true, false, true≢false}
use mathlib.Core.List.{List, [], ◌∷◌, ◌++◌, append_assoc, append-nil}
use lib.ListN.{length, take, drop, get_or, length-append, length-take, length-drop, drop_of_length-le, take-append-drop}
use lib.Dec.{eqb, ltb}
use lib.Seq.{drop-cons, take_all, take-length, take-suc, take-take}
use borrow.Author.Tests.{eqb-true, eq-eqb, ne_eqb, eqb-false, ltb-true, ltb-false}
use Rattle.std.proofs.Common.{Option, Some, None, Result, Ok, Err, Bor}
use Rattle.std.specs.Option.{is_some, option_eq, IfSome}
use Rattle.rules.proofs.Laws.{by_case, and_true}
use Rattle.rules.specs.Tables.{Plant, setup}
use Rattle.line_format.specs.Serving.{served, lines_of, Serves}
use Rattle.line_format.specs.Feeding.{complete, unended, last_line, Feeds}
use Rattle.line_format.proofs.Cutting.{complete_append, lines_complete}
use Rattle.line_format.proofs.Serving.{serves_append}
use Rattle.line_format.proofs.Feeding.{feeds_append, feeds_whole}
use Rattle.plant.specs.View.{view_plant}
use Rattle.line_pending.specs.View.{view_pending}
use Rattle.line_server.specs.Fed.{kept_server, Fed, Finished}
use Rattle.line_server.specs.declared.Server.{Server}
use Rattle.examples.specs.Comparison.{common, Matches, Compared}

-- ── the first bytes in common ──
abbrev AllFirst : List ℕ → List ℕ → Type 0
AllFirst came answers = came ≡ take (length came) answers

none : {n : ℕ} {P : Type 0} → 0 ≡ suc n → P
none e = absurd (omega arith)

common_le : (came answers : List ℕ) → common came answers ≤ length came
common_le [] answers = omega arith
common_le (b ∷ came) [] = omega arith
common_le (b ∷ came) (a ∷ answers) = by_case (eqb b a) (λ t. let h = common_le came answers in rw t (omega arith)) (λ t. rw t (omega arith))

common_all : (came answers : List ℕ) → AllFirst came answers → common came answers ≡ length came
common_all [] answers e = refl
common_all (b ∷ came) [] e = let z : ◌≡◌ {A = ℕ} 0 1 = cc in none z
common_all (b ∷ came) (a ∷ answers) e =
    let h : b ≡ a = cc in
    let l : AllFirst came answers = cc in
    rw (eq-eqb b a h) (ap suc (common_all came answers l))

all_common : (came answers : List ℕ) → common came answers ≡ length came → AllFirst came answers
all_common [] answers e = refl
all_common (b ∷ came) [] e = none e
all_common (b ∷ came) (a ∷ answers) e =
    by_case (eqb b a)
    (λ t.
    let h = all_common came answers (omega (arith, rw t at e)) in
    let s = eqb-true b a t in
    cc)
    (λ t. none (rw t at e))

-- bytes come after others that are all the same
common_after : (came out answers : List ℕ) → common came answers ≡ length came → common (came ++ out) answers ≡ length came + common out (drop (length came) answers)
common_after [] out answers e = omega arith
common_after (b ∷ came) out [] e = none e
common_after (b ∷ came) out (a ∷ answers) e =
    by_case (eqb b a)
    (λ t.
    let h = common_after came out answers (omega (arith, rw t at e)) in
    rw t (omega arith))
    (λ t. none (rw t at e))

-- once a byte is another, no more are the same
common-stays : (came out answers : List ℕ) → common came answers < length came → common (came ++ out) answers ≡ common came answers
common-stays [] out answers h = absurd (omega arith)
common-stays (b ∷ came) out [] h = refl
common-stays (b ∷ came) out (a ∷ answers) h =
    by_case (eqb b a)
    (λ t. rw t (ap suc (common-stays came out answers (omega (arith, rw t at h)))))
    (λ t. rw t refl)

-- ── a byte that comes, and the one that is looked up in the answers for it ──
abbrev same_byte : Option (Bor ℕ) → Bor ℕ → Bool
same_byte r b = option_eq (λ x y. eqb x.now y.now) r (Some b)

next : (answers more : List ℕ) (at : ℕ) (b : Bor ℕ) (r : Option (Bor ℕ)) → is_some r ≡ ltb at (length answers) → IfSome r (λ x. x.now ≡ get_or answers at x.now)
    → common (b.now ∷ more) (drop at answers) ≡ cond (same_byte r b) (suc (common more (drop (suc at) answers))) 0
next answers more at b None s i = rw (drop_of_length-le answers (ltb-false at (length answers) (sym s))) refl
next answers more at b (Some x) s i =
    let d = drop-cons answers at x.now (ltb-true at (length answers) (sym s)) in
    rw (d, ← i)
    (by_case (eqb x.now b.now)
    (λ t. rw (t, eq-eqb b.now x.now (sym (eqb-true x.now b.now t))) refl)
    (λ t. rw (t, ne_eqb b.now x.now (λ e. eqb-false x.now b.now t (sym e))) refl))

-- ── what has come ──
module _ (answers came : List ℕ) (at : ℕ) (m : Matches answers came (Ok at)) where
  all_came : common came answers ≡ length came
  all_came = common_all came answers (m.same.0 refl)

  long_as : at ≡ length came
  long_as = m.at ∙ all_came

  after : (out : List ℕ) → common (came ++ out) answers ≡ at + common out (drop at answers)
  after out = rw long_as (common_after came out answers all_came)

  module _ (b : Bor ℕ) (r : Option (Bor ℕ)) (s : is_some r ≡ ltb at (length answers)) (i : IfSome r (λ x. x.now ≡ get_or answers at x.now)) (other : Bool) (e : other ≡ not (same_byte r b)) where
    byte_more : other ≡ false → Matches answers (came ++ (b.now ∷ [])) (Ok (at + 1))
    byte_more f =
        let t : same_byte r b ≡ true = by_case (same_byte r b) (λ t. t) (λ t. absurd (true≢false (sym (e ∙ ap not t) ∙ f))) in
        let n : common (b.now ∷ []) (drop at answers) ≡ 1 = next answers [] at b r s i ∙ rw t refl in
        let c : common (came ++ (b.now ∷ [])) answers ≡ at + 1 = omega (arith, after (b.now ∷ []), n) in
        let l : length (came ++ (b.now ∷ [])) ≡ at + 1 = simp length-append (omega (arith, long_as)) in
        record { at = sym c; same = ((λ _. all_common (came ++ (b.now ∷ [])) answers (c ∙ sym l)), (λ _. refl)) }

    byte_other : other ≡ true → (more : List ℕ) → Matches answers (came ++ (b.now ∷ more)) (Err at)
    byte_other f more =
        let t : same_byte r b ≡ false = by_case (same_byte r b) (λ t. absurd (true≢false (sym f ∙ e ∙ ap not t))) (λ t. t) in
        let n : common (b.now ∷ more) (drop at answers) ≡ 0 = next answers more at b r s i ∙ rw t refl in
        let c : common (came ++ (b.now ∷ more)) answers ≡ at = omega (arith, after (b.now ∷ more), n) in
        let l : length (came ++ (b.now ∷ more)) ≡ at + suc (length more) = simp length-append (omega (arith, long_as)) in
        record { at = sym c; same = ((λ f. absurd (true≢false (sym f))), (λ f. let z = common_all (came ++ (b.now ∷ more)) answers f in absurd (omega (arith, c, l)))) }

-- the bytes of out come, of which i have
module _ (answers came out : List ℕ) (i at : ℕ) (h : i < length out) (m : Matches answers (came ++ take i out) (Ok at)) (b : Bor ℕ) (q : b.now ≡ get_or out i 0)
    (r : Option (Bor ℕ)) (s : is_some r ≡ ltb at (length answers)) (f : IfSome r (λ x. x.now ≡ get_or answers at x.now)) (other : Bool) (e : other ≡ not (same_byte r b)) where
  pub as_next : other ≡ false → Matches answers (came ++ take (i + 1) out) (Ok (at + 1))
  as_next t =
      rw (add-one i, take-suc out i 0 h, ← q, ← append_assoc came (take i out) (b.now ∷ []))
      (byte_more answers (came ++ take i out) at m b r s f other e t)

  pub as_other : other ≡ true → Matches answers (came ++ out) (Err at)
  as_other t =
      let l : out ≡ take i out ++ (b.now ∷ drop (suc i) out) = sym (take-append-drop i out) ∙ ap (λ l. take i out ++ l) (drop-cons out i 0 h ∙ ap (λ x. x ∷ drop (suc i) out) (sym q)) in
      subst (λ l. Matches answers l (Err at)) (append_assoc came (take i out) (b.now ∷ drop (suc i) out) ∙ ap (λ l. came ++ l) (sym l))
      (byte_other answers (came ++ take i out) at m b r s f other e t (drop (suc i) out))

-- more comes where a byte was another
module _ (answers came : List ℕ) (at : ℕ) (m : Matches answers came (Err at)) where
  fewer : common came answers < length came
  fewer =
      let le = common_le came answers in
      let ne : common came answers ≡ length came → ⊥ = λ q. true≢false (sym (m.same.1 (all_common came answers q))) in
      omega arith

  stays : (more : List ℕ) → Matches answers (came ++ more) (Err at)
  stays more =
      let less = fewer in
      let a = common-stays came more answers less in
      let l = length-append came more in
      record { at = m.at ∙ sym a; same = ((λ f. absurd (true≢false (sym f))), (λ f. let z = common_all (came ++ more) answers f in absurd (omega arith))) }

-- ── what the lines are answered with ──
module _ (lines answers came : List ℕ) (p : Plant) (s : Serves (lines_of lines) setup came p) (at : ℕ) where
  differ : Matches answers came (Err at) → Compared lines answers (Err at)
  differ m =
      record { came = came; plant = p; serves = s; same = ((λ e. absurd (true≢false (sym e))), (λ e. m.same.1 (sym (take-length came) ∙ ap (take (length came)) e))); at = m.at }

  module _ (m : Matches answers came (Ok at)) where
    whole : at ≡ length answers → Compared lines answers (Ok tt)
    whole h =
        record { came = came; plant = p; serves = s; same = ((λ _. m.same.0 refl ∙ take_all (length came) answers (omega (arith, h, long_as answers came at m))), (λ _. refl)); at = tt }

    missing : (at ≡ length answers → ⊥) → Compared lines answers (Err at)
    missing h =
        record { came = came; plant = p; serves = s; same = ((λ e. absurd (true≢false (sym e))), (λ e. absurd (h (long_as answers came at m ∙ ap length e)))); at = m.at }

-- ── an example, up to the rest of its lines ──
pub record Going (lines answers rest : List ℕ) (s : Server) (at : ℕ) : Type 0 where
  pub done : List ℕ
  pub cut : lines ≡ done ++ rest
  pub came : List ℕ
  pub feeds : Feeds [] setup done came (view_pending s.pending) (view_plant s.plant)
  pub keeps : kept_server s ≡ true
  pub tells : Matches answers came (Ok at)

pub going-none : (lines answers : List ℕ) (s : Server) → view_plant s.plant ≡ setup → view_pending s.pending ≡ [] → kept_server s ≡ true → Going lines answers lines s 0
going-none lines answers s p e k =
    record { done = []; cut = refl; came = []; feeds = rw (p, e) (record { serves = refl; keeps = refl }); keeps = k; tells = record { at = refl; same = ((λ _. refl), (λ _. refl)) } }

module _ (lines answers rest : List ℕ) (s : Server) (at : ℕ) (g : Going lines answers rest s at) (out : List ℕ) (t : Server) where
  -- the answers that have come after those that had
  abbrev Told : Result ℕ ℕ → Type 0
  Told r = (came : List ℕ) → Matches answers came (Ok at) → Matches answers (came ++ take t.wrote out) r

  -- a piece of the rest was fed
  module _ (n : ℕ) (f : kept_server s ≡ true → Fed s (take n rest) out t) (h : t.used ≤ length (take n rest)) where
    fed : Feeds [] setup (g.done ++ take t.used rest) (g.came ++ take t.wrote out) (view_pending t.pending) (view_plant t.plant)
    fed =
        let k : t.used ≤ n = omega (arith, simp length-take at h) in
        rw (← take-take t.used n rest k) (feeds_append _ _ _ _ _ _ _ _ _ _ g.feeds (f g.keeps).feeds)

    parted : lines ≡ (g.done ++ take t.used rest) ++ drop t.used rest
    parted = g.cut ∙ ap (λ l. g.done ++ l) (sym (take-append-drop t.used rest)) ∙ sym (append_assoc g.done (take t.used rest) (drop t.used rest))

    pub going : (at' : ℕ) → Told (Ok at') → (k : ℕ) → length rest - t.used ≤ k → Going lines answers (take k (drop t.used rest)) t at'
    going at' told k e =
        rw (take_all k (drop t.used rest) (simp length-drop e))
        (record { done = g.done ++ take t.used rest; cut = parted; came = g.came ++ take t.wrote out; feeds = fed; keeps = (f g.keeps).keeps; tells = told g.came g.tells })

    -- a byte was another, whatever the rest is answered with
    pub early : (at' : ℕ) → Told (Err at') → Compared lines answers (Err at')
    early at' told =
        let xs = g.done ++ take t.used rest in
        let ys = complete (unended xs ++ drop t.used rest) ++ last_line (unended lines) in
        let more = served ys (view_plant t.plant) in
        let all : lines_of lines ≡ complete xs ++ ys =
        lines_complete lines ∙ ap (λ l. complete l ++ last_line (unended lines)) parted ∙ ap (λ l. l ++ last_line (unended lines)) (complete_append xs (drop t.used rest))
        ∙ append_assoc (complete xs) (complete (unended xs ++ drop t.used rest)) (last_line (unended lines)) in
        let serves : Serves (lines_of lines) setup ((g.came ++ take t.wrote out) ++ more.bytes) more.plant = rw all (serves_append (complete xs) ys setup (view_plant t.plant) more.plant (g.came ++ take t.wrote out) more.bytes fed.serves refl) in
        differ lines answers _ _ serves at' (stays answers (g.came ++ take t.wrote out) at' (told g.came g.tells) more.bytes)

  -- the end of the lines
  module _ (h : true ≡ eqb (length rest) 0) (f : kept_server s ≡ true → Finished s out t) where
    ended : Serves (lines_of lines) setup (g.came ++ take t.wrote out) (view_plant t.plant)
    ended = rw (g.cut, nil rest (eqb-true (length rest) 0 (sym h)), append-nil g.done) (feeds_whole _ _ _ _ _ _ _ g.feeds (f g.keeps).serves)
      where
        nil : (l : List ℕ) → length l ≡ 0 → l ≡ []
        nil [] h = refl
        nil (b ∷ l) h = absurd (omega arith)

    pub late : (at' : ℕ) → Told (Err at') → Compared lines answers (Err at')
    late at' told = differ lines answers _ _ ended at' (told g.came g.tells)

    pub all_same : (at' : ℕ) → Told (Ok at') → at' ≡ length answers → Compared lines answers (Ok tt)
    all_same at' told = whole lines answers _ _ ended at' (told g.came g.tells)

    pub too_few : (at' : ℕ) → Told (Ok at') → (at' ≡ length answers → ⊥) → Compared lines answers (Err at')
    too_few at' told = missing lines answers _ _ ended at' (told g.came g.tells)

-- ── a table of which every entry has a size ──
unfoldable pub all_sized : List (Bor (List ℕ) × Bor (List ℕ) × ℕ) → Bool
all_sized [] = true
all_sized (e ∷ es) = ltb 0 e.2 && all_sized es

pub sized : (es : List (Bor (List ℕ) × Bor (List ℕ) × ℕ)) (i : ℕ) (d : Bor (List ℕ) × Bor (List ℕ) × ℕ) → all_sized es ≡ true → i < length es → 0 < (get_or es i d).2
unfolding all_sized
sized [] i d s h = absurd (omega arith)
sized (e ∷ es) zero d s h = ltb-true 0 e.2 (and_true (ltb 0 e.2) (all_sized es) s).0
sized (e ∷ es) (suc i) d s h = sized es i d (and_true (ltb 0 e.2) (all_sized es) s).1 (omega arith)
