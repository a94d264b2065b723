-- What a call is answered in the loop, and what it leaves, as all that is promised of it.
use Prim.Native.Nat.{ℕ, ◌*◌}
use mathlib.Core.Path.{◌≡◌, refl, sym, ◌∙◌, ap}
use mathlib.Core.Bool.{true, false, true≢false}
use mathlib.Core.List.{List}
use lib.Dec.{eqb}
use lib.IntN.{ℤ}
use lib.ListN.{length}
use Rattle.rules.specs.Limits.{words_per_field}
use Rattle.rules.specs.Calls as C
use Rattle.rules.specs.Tables as M
use Rattle.rules.specs.Claims.{Fills}
use Rattle.rules.proofs.Laws.{by_case}
use Rattle.rules.proofs.Frames.{fills_only_lem}
use Rattle.rules.specs.Values.{Field}
use Rattle.cache.specs.cached.View.{view_cached}
use Rattle.cache.specs.cached.Form.{cached_form}
use Rattle.plant.specs.View.{view_plant, plant_form, kept_plant}
use Rattle.plant.specs.declared.Plant.{Plant}
use Rattle.answers.specs.View.{view_answer, is_refused}
use Rattle.answers.specs.Own.{is_answer_of}
use Rattle.std.specs.Prelude.{Result}
use Rattle.answers.specs.declared.Answer.{Answer}
use Rattle.answers.specs.declared.Refusal.{Refusal}
use Rattle.calls.specs.View.{view_call}
use Rattle.calls.specs.declared.Call.{Call}
use Rattle.calls.specs.declared.Call.TheVariants.{Read}
use Rattle.promises.specs.Promise.{result, Answers, Leaves, Keeps}
use Rattle.call_read_shown.specs.values.Shown.{shown_in}
use Rattle.call_read.specs.Shows.{fields_of, Shows, Found}
use Rattle.entry.specs.Refused.{RefusalLeaves}
use Rattle.entry_parts.specs.Session.{has_session}
use Rattle.entry.specs.RanAll.{Entered}
use Rattle.call_read_shown.specs.declared.Marked.{Marked}
use Rattle.entry.proofs.Filled.{Seen, filled, shown_by, own_unread, own_read, Carries, carries_answer, carries_filled, carried}
use Rattle.entry.specs.declared.Told.{Told}
use Rattle.entry.proofs.Laws.{ran}

-- the answer, and what a read has shown, for any n words
pub record Asked (n : ℕ) (p : Plant) (c : Call) (o : Seen) : Type 0 where
  pub answers : (lent : List ℤ) → length lent ≡ n → Answers (view_call c) lent p o.answer
  pub fills : (lent : List ℤ) → length lent ≡ n → kept_plant p ≡ true → filled o lent ≡ (result (view_call c) lent p).words
  pub own : is_answer_of (view_call c) o.answer ≡ true
  pub shows : (s k : ℤ) → c ≡ Read s k → is_refused (view_answer o.answer) ≡ false → Shows s k p o.shown
  pub form : (s k : ℤ) → c ≡ Read s k → is_refused (view_answer o.answer) ≡ false → plant_form p ≡ true → cached_form o.shown.fields ≡ true

-- ── by the function of a read ──
read_is : (s k s' k' : ℤ) (P : ℤ → ℤ → Type 0) → Read s k ≡ Read s' k' → P s k → P s' k'
read_is s k s' k' P e h = let es : s ≡ s' = cc in let ek : k ≡ k' = cc in rw (es, ek) at h

pub asked_read : (n : ℕ) (p : Plant) (c : Call) (o : Seen) (r : Result Marked Refusal) (s k : ℤ) → c ≡ Read s k → Carries r o → Found s k p n r → Asked n p c o
asked_read n p c o r s k ec h f =
    let a = carries_answer r o h in
    rw ec
    (record {
      answers = λ lent e. rw a (f.answers lent e);
      fills = λ lent e q. carries_filled r o h lent ∙ f.fills lent e q;
      own = rw a f.own;
      shows = λ s' k' e g. read_is s k s' k' (λ x y. Shows x y p o.shown) e (carried (Shows s k p) r o h f.shows g);
      form = λ s' k' e g q. carried (λ m. cached_form m.fields ≡ true) r o h (f.form q) g;
    })

-- ── by that of a call that is no read: it fills no words ──
none_filled : (c : C.Call) → eqb (C.call_number c) 4 ≡ false → (lent ws : List ℤ) → Fills c lent ws → ws ≡ lent
none_filled (C.Load d f k v) n lent ws h = h
none_filled (C.Map k m ps) n lent ws h = h
none_filled C.Begin n lent ws h = h
none_filled (C.Read s k) n lent ws h = absurd (true≢false n)
none_filled (C.Change s d f k v) n lent ws h = h
none_filled (C.Commit s) n lent ws h = h
none_filled (C.Abandon s) n lent ws h = h
none_filled (C.Advance t) n lent ws h = h
none_filled (C.Take w) n lent ws h = h
none_filled (C.Apply w f) n lent ws h = h
none_filled (C.Delete w) n lent ws h = h
none_filled (C.Cut w) n lent ws h = h
none_filled C.Sweep n lent ws h = h
none_filled (C.Store t) n lent ws h = h
none_filled (C.Report s) n lent ws h = h

module _ (n : ℕ) (p : Plant) (c : Call) (o : Seen) (a : Result Answer Refusal) (ea : o.answer ≡ a) where
  -- whatever stands beside its answer
  pub asked_other : (y : Call) → c ≡ y → eqb (C.call_number (view_call y)) 4 ≡ false → ((lent : List ℤ) → Answers (view_call y) lent p a) → is_answer_of (view_call y) a ≡ true → Asked n p c o
  asked_other y ec other h own =
      let mine : is_answer_of (view_call y) o.answer ≡ true = rw ea own in
      let no : (s k : ℤ) → y ≡ Read s k → ⊥ = λ s k e. true≢false (sym (ap (λ z. eqb (C.call_number (view_call z)) 4) e) ∙ other) in
      rw ec
      (record {
        answers = λ lent e. rw ea (h lent);
        fills = λ lent e k. rw (own_unread (view_call y) other o.answer mine) (sym (none_filled (view_call y) other lent _ (fills_only_lem (view_call y) lent (view_plant p))));
        own = mine;
        shows = λ s k e. absurd (no s k e);
        form = λ s k e. absurd (no s k e);
      })

-- a call that is no session's is none
pub plain_other : (c : Call) → has_session c ≡ false → eqb (C.call_number (view_call c)) 4 ≡ false
plain_other c h = by_case (eqb (C.call_number (view_call c)) 4) (λ e. absurd (true≢false (rw e at h))) (λ e. e)

-- ── with what it leaves ──
abbrev pub Done : Call → Plant → Result Answer Refusal → Plant → Type 0
Done c p a q = RefusalLeaves p a q × (Leaves (view_call c) p a q × ((plant_form p ≡ true → plant_form q ≡ true) × Keeps (view_call c) p a q))

-- what a read that is not refused shows
shown_is : (n : ℕ) (p : Plant) (c : Call) (o : Seen) → Asked n p c o → (s k : ℤ) → c ≡ Read s k → is_refused (view_answer o.answer) ≡ false → (lent : List ℤ) → (filled o lent ≡ shown_in (fields_of s k p) lent) × (shown_by o ≡ words_per_field * length (fields_of s k p))
shown_is n p c o x s k e f lent =
    let own : is_answer_of (C.Read s k) o.answer ≡ true = (rw e at x).own in
    let fields : (view_cached o.shown.fields).fields ≡ fields_of s k p = ap (λ (m : M.Cached). m.fields) (x.shows s k e f).1 in
    rw (own_read s k o.answer own f) (ap (λ fs. shown_in fs lent) fields, ap (λ (fs : List Field). words_per_field * length fs) fields)

pub entered : (n : ℕ) (p : Plant) (c : Call) (o : Seen) → Asked n p c o → (t : Told) → t.answer ≡ o.answer → t.shown ≡ shown_by o → (q : Plant) → Done c p o.answer q → (lent : List ℤ) → length lent ≡ n → Entered c lent p t (filled o lent) q
entered n p c o x t ea es q d lent e =
    rw (ea, es)
    (record {
      runs = ran c lent (filled o lent) p q o.answer (x.answers lent e) (x.fills lent e) d.1.0 d.1.1.1;
      own = x.own;
      form = d.1.1.0;
      refused = d.0;
      shows = λ s k ec f. shown_is n p c o x s k ec f lent;
      leaves = λ h. rw h (refl, refl);
    })
