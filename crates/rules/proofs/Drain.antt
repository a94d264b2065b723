-- The drain: a ready worker's four calls are not refused and take the oldest session out of the buffer.
use Prim.Native.Nat.{◌<◌, ◌≤◌, suc, zero, ℕ}
use native.Mathlib.Omega.{arith}
use mathlib.Core.Path.{◌∙◌, ◌≡◌, ap, refl, sym}
use mathlib.Core.Bool.{Bool, false, not, true, true≢false}
use mathlib.Core.Option.{some}
use mathlib.Core.List.{List, [], ◌++◌, ◌∷◌, head-eq_of_cons-eq, map, nil≢cons, tail-eq_of_cons-eq}
use lib.ListN.{length, length-append, length-take}
use lib.Dec.{eqb}
use lib.IntN.{pos, ℤ}
use borrow.Author.Tests.{eqb-true, lt-leb, lt-ltb}
use Rattle.rules.specs.Lists.{keep, has, without, upto}
use Rattle.rules.specs.Limits.{row_limit, sweep_limit, worker_count}
use Rattle.rules.specs.Refusals.{queue_leased, wrong_hand, ◌⇒◌}
use Rattle.rules.specs.Tables.{Batch, numbers_of, is_buffered, holds, full, handed, any_hand, leased, is_leased, Plant, removable, with_hand}
use Rattle.rules.specs.Calls.{Call, Take, Apply, Delete, Sweep, Answer}
use Rattle.rules.specs.Conditions.{conditions}
use Rattle.rules.specs.Effects.{room, taken, carried, applied, deleted, swept}
use Rattle.rules.specs.Step.{accepted, step}
use Rattle.rules.specs.History.{Turn, World, does, turn, turns}
use Rattle.rules.specs.Demand3.{four_calls, rounds, calls_of, is_fine, NoneRefused}
use Rattle.rules.proofs.Laws.{by_case, self, or_one}
use Rattle.rules.proofs.Tests.{Once}
use Rattle.rules.proofs.Steps.{unmet, step-fine}
use Rattle.rules.proofs.KeptParts.{Kept}
use Rattle.rules.proofs.Buffer.{has_append, has_left, once_keep, length-keep_less, buffered_nums, unbuffer_none}
use Rattle.rules.proofs.InOrder.{kept_has}
use Rattle.rules.proofs.Sweeping.{split-length, row_in_hands, swept_count}
use Rattle.rules.proofs.KeptTables.{has-keep-true}
use Rattle.rules.proofs.Kept.{step_keeps_lem, turns_keep}
use Rattle.rules.proofs.Prepare.{fine_append}

pub record Ready (v : ℕ) (p : Plant) : Type 0 where
  pub near : p.near ≡ true
  pub hand : full (p.hands v) ≡ false
  pub queue : is_leased p.queue ≡ false

-- a list of numbers, each once, all of them in another list
pub once_length : (l m : List ℕ) → Once l → ((n : ℕ) → has n l ≡ true → has n m ≡ true) → length l ≤ length m
once_length [] m o h = omega arith
once_length (x ∷ l) m o h =
    omega (
      arith,
      once_length l (without x m) o.1 (λ n e. kept n e (h n (by_case (eqb n x) (λ t. rw t) (λ t. rw t e)))),
      length-keep_less
          (λ k. not (eqb x k)) x m (h x (rw (self x))) (rw (self x)),
    )
  where
    stays : (n : ℕ) (k : List ℕ) → eqb x n ≡ false → has n k ≡ true → has n (without x k) ≡ true
    stays n [] e g = g
    stays n (y ∷ k) e g =
        by_case (eqb n y)
        (λ t. rw (← eqb-true n y t, e, self n))
        (λ t. by_case (eqb x y) (λ u. rw u (stays n k e (rw t at g))) (λ u. rw (u, t) (stays n k e (rw t at g))))

    kept : (n : ℕ) → has n l ≡ true → has n m ≡ true → has n (without x m) ≡ true
    kept n e g = by_case (eqb x n) (λ t. absurd (true≢false (sym e ∙ rw (eqb-true x n t) at o.0))) (λ t. stays n m t g)

-- the rows that no sweep may remove: 32 buffered sessions and 4 hands, fewer than 48
abbrev pub in_hands : Plant → List ℕ
in_hands p = map (λ w. handed (p.hands w)) (upto worker_count)

abbrev pub held_rows : Plant → List ℕ
held_rows p = numbers_of p.buffer ++ in_hands p

pub has_right : (n : ℕ) (a b : List ℕ) → has n b ≡ true → has n (a ++ b) ≡ true
has_right n a b e = rw (has_append n a b, e) (or_one (has n a))

pub length_nums : (l : List Batch) → length (numbers_of l) ≡ length l
length_nums [] = refl
length_nums (b ∷ l) = ap suc (length_nums l)

-- after a sweep there is room for a row
pub swept-room : (p : Plant) → Kept p → length (swept p).rows < row_limit
swept-room p i =
    omega (
      arith,
      swept_count p i.rows.once,
      length-take sweep_limit (keep (removable p) p.rows),
      split-length (removable p) p.rows,
      once_length (keep (λ n. not (removable p n)) p.rows) (held_rows p) (once_keep (λ n. not (removable p n)) p.rows i.rows.once) held,
      length-append (numbers_of p.buffer) (in_hands p),
      length_nums p.buffer,
      i.buffer.few,
      i.rows.few,
    )
  where
    held : (n : ℕ) → has n (keep (λ m. not (removable p m)) p.rows) ≡ true → has n (held_rows p) ≡ true
    held n g =
        by_case (is_buffered n p.buffer)
        (λ t. has_left n (numbers_of p.buffer) (in_hands p) (sym (buffered_nums n p.buffer) ∙ t))
        (λ t. by_case (any_hand p.hands n) (λ u. has_right n (numbers_of p.buffer) (in_hands p) (sym (row_in_hands n p i (has-keep-true (λ m. not (removable p m)) n p.rows g) (upto worker_count)) ∙ u))
        (λ u. absurd (true≢false (sym (kept_has (λ m. not (removable p m)) n p.rows g) ∙ rw (t, u)))))

-- ── the four calls ──
pub record Stage (v : ℕ) (r : Bool) (b : Batch) (l : List Batch) (p : Plant) : Type 0 where
  pub near : p.near ≡ true
  pub hand : p.hands v ≡ holds b.number r
  pub buffer : p.buffer ≡ b ∷ l
  pub queue : p.queue ≡ leased (some v) p.clock

abbrev pub Fine : Answer → Type 0
Fine a = is_fine a ≡ true

pub round_take : (v : ℕ) (b : Batch) (l : List Batch) (lent : List ℤ) (p : Plant) → v < worker_count → Ready v p → p.buffer ≡ b ∷ l
    → Fine (step (Take (pos v)) lent p).answer × Stage v false b l (step (Take (pos v)) lent p).plant
unfolding conditions accepted taken ◌⇒◌
round_take v b l lent p lt r e =
    rw (step-fine (Take (pos v)) lent p (rw (lt-ltb v worker_count lt), (unmet _ wrong_hand r.hand, (unmet _ queue_leased r.queue, (rw e, tt)))))
    (refl, record { near = r.near; hand = rw (self v, e); buffer = e; queue = refl })

pub round_sweep : (v : ℕ) (b : Batch) (l : List Batch) (lent : List ℤ) (p : Plant) → Stage v false b l p
    → Fine (step Sweep lent p).answer × Stage v false b l (step Sweep lent p).plant ×
    ((step Sweep lent p).plant.rows ≡ (swept p).rows)
unfolding conditions accepted swept ◌⇒◌
round_sweep v b l lent p s =
    rw (step-fine Sweep lent p (rw s.near, tt)) (refl, record { near = s.near; hand = s.hand; buffer = s.buffer; queue = s.queue }, refl)

pub carried_stage : (v n : ℕ) (b : Batch) (l : List Batch) (p : Plant) → Stage v false b l p
    → Stage v true b l (with_hand v (holds b.number true) (carried n p))
unfolding carried
carried_stage v n b l p s =
    by_case (has n p.rows)
    (λ e. rw e (record { near = s.near; hand = rw (self v); buffer = s.buffer; queue = s.queue }))
    (λ e. rw e (record { near = s.near; hand = rw (self v); buffer = s.buffer; queue = s.queue }))

pub round_apply : (v : ℕ) (b : Batch) (l : List Batch) (lent : List ℤ) (p : Plant) → v < worker_count → Stage v false b l p
    → length p.rows < row_limit
    → Fine (step (Apply (pos v) (pos 0)) lent p).answer × Stage v true b l (step (Apply (pos v) (pos 0)) lent p).plant
unfolding conditions accepted applied ◌⇒◌
round_apply v b l lent p lt s room =
    rw
    (step-fine (Apply (pos v) (pos 0)) lent p
    (rw (lt-ltb v worker_count lt), (rw s.hand, (rw s.near, (rw (lt-leb row_limit (length p.rows) room), tt)))))
    (refl, rw s.hand (carried_stage v b.number b l p s))

pub round_delete : (v : ℕ) (b : Batch) (l : List Batch) (lent : List ℤ) (p : Plant) → v < worker_count → Stage v true b l p
    → has b.number (numbers_of l) ≡ false
    → Fine (step (Delete (pos v)) lent p).answer × Ready v (step (Delete (pos v)) lent p).plant ×
    ((step (Delete (pos v)) lent p).plant.buffer ≡ l)
unfolding conditions accepted deleted ◌⇒◌
round_delete v b l lent p lt s o =
    rw (step-fine (Delete (pos v)) lent p (rw (lt-ltb v worker_count lt), (rw s.hand, tt))) (
      refl,
      record { near = s.near; hand = rw (self v); queue = rw (s.queue, self v) },
      rw (s.hand, s.buffer, self b.number)
          (unbuffer_none b.number l o),
    )

pub uncons : (l : List Batch) (n : ℕ) → length l ≡ suc n → (b : Batch) × (k : List Batch) × (l ≡ b ∷ k) × (length k ≡ n)
uncons [] n e = absurd (omega arith)
uncons (b ∷ k) n e = (b, k, refl, omega arith)

-- a turn that makes a given call
pub record Makes (v : ℕ) (t₁ t₂ t₃ t₄ : Turn) : Type 0 where
  pub one : t₁.call ≡ Take (pos v)
  pub two : t₂.call ≡ Sweep
  pub three : t₃.call ≡ Apply (pos v) (pos 0)
  pub four : t₄.call ≡ Delete (pos v)

pub record Rounded (v : ℕ) (l : List Batch) (ts : List Turn) (w : World) : Type 0 where
  pub none_refused : NoneRefused ts w.plant
  pub ready : Ready v (turns ts w).plant
  pub buffer : (turns ts w).plant.buffer ≡ l

pub a_round : (v : ℕ) → v < worker_count → (b : Batch) (l : List Batch) (t₁ t₂ t₃ t₄ : Turn) (w : World) → Makes v t₁ t₂ t₃ t₄ → Kept w.plant
    → Ready v w.plant
    → w.plant.buffer ≡ b ∷ l → Rounded v l (t₁ ∷ t₂ ∷ t₃ ∷ t₄ ∷ []) w
a_round v lt b l t₁ t₂ t₃ t₄ w m i r e =
    let s₁ : Fine (does t₁ w.plant).answer × Stage v false b l (does t₁ w.plant).plant = rw m.one
    (round_take v b l t₁.lent w.plant lt r e) in
    let w₁ = turn t₁ w in
    let i₁ : Kept w₁.plant = step_keeps_lem t₁.call t₁.lent w.plant i in
    let s₂ : Fine (does t₂ w₁.plant).answer × Stage v false b l (does t₂ w₁.plant).plant ×
    ((does t₂ w₁.plant).plant.rows ≡ (swept w₁.plant).rows) =
    rw m.two (round_sweep v b l t₂.lent w₁.plant s₁.1) in
    let w₂ = turn t₂ w₁ in
    let room : length w₂.plant.rows < row_limit = rw s₂.2 (swept-room w₁.plant i₁) in
    let s₃ : Fine (does t₃ w₂.plant).answer × Stage v true b l (does t₃ w₂.plant).plant = rw m.three
    (round_apply v b l t₃.lent w₂.plant lt s₂.1 room) in
    let w₃ = turn t₃ w₂ in
    let once : has b.number (numbers_of l) ≡ false = (rw e at i.buffer.once).0 in
    let s₄ : Fine (does t₄ w₃.plant).answer × Ready v (does t₄ w₃.plant).plant × ((does t₄ w₃.plant).plant.buffer ≡ l) =
    rw m.four (round_delete v b l t₄.lent w₃.plant lt s₃.1 once) in
    record { none_refused = (s₁.0, (s₂.0, (s₃.0, (s₄.0, tt)))); ready = s₄.1; buffer = s₄.2 }

-- ── all rounds ──
pub makes : (v : ℕ) (t₁ t₂ t₃ t₄ : Turn) (us : List Turn) (cs : List Call) → calls_of (t₁ ∷ t₂ ∷ t₃ ∷ t₄ ∷ us) ≡ four_calls v ++ cs
    → Makes v t₁ t₂ t₃ t₄ × (calls_of us ≡ cs)
makes v t₁ t₂ t₃ t₄ us cs e =
    let e₁ = tail-eq_of_cons-eq e in
    let e₂ = tail-eq_of_cons-eq e₁ in
    let e₃ = tail-eq_of_cons-eq e₂ in
    (record { one = head-eq_of_cons-eq e; two = head-eq_of_cons-eq e₁; three = head-eq_of_cons-eq e₂; four = head-eq_of_cons-eq e₃ }, tail-eq_of_cons-eq e₃)

pub nil_length : (l : List Batch) → length l ≡ 0 → l ≡ []
nil_length [] e = refl
nil_length (b ∷ l) e = absurd (omega arith)

pub all_rounds : (v : ℕ) → v < worker_count → (n : ℕ) (us : List Turn) (w : World) → calls_of us ≡ rounds v n → length w.plant.buffer ≡ n
    → Kept w.plant → Ready v w.plant → Rounded v [] us w
all_rounds v lt zero [] w c e i r = record { none_refused = tt; ready = r; buffer = nil_length _ e }
all_rounds v lt zero (t ∷ us) w c e i r = absurd (nil≢cons (sym c))
all_rounds v lt (suc n) [] w c e i r = absurd (nil≢cons c)
all_rounds v lt (suc n) (t₁ ∷ []) w c e i r = absurd (nil≢cons (tail-eq_of_cons-eq c))
all_rounds v lt (suc n) (t₁ ∷ t₂ ∷ []) w c e i r = absurd (nil≢cons (tail-eq_of_cons-eq (tail-eq_of_cons-eq c)))
all_rounds v lt (suc n) (t₁ ∷ t₂ ∷ t₃ ∷ []) w c e i r = absurd (nil≢cons (tail-eq_of_cons-eq (tail-eq_of_cons-eq (tail-eq_of_cons-eq c))))
all_rounds v lt (suc n) (t₁ ∷ t₂ ∷ t₃ ∷ t₄ ∷ us) w c e i r =
    let m = makes v t₁ t₂ t₃ t₄ us (rounds v n) c in
    let u = uncons w.plant.buffer n e in
    let ts : List Turn = t₁ ∷ t₂ ∷ t₃ ∷ t₄ ∷ [] in
    let s = a_round v lt u.0 u.1 t₁ t₂ t₃ t₄ w m.0 i r u.2 in
    let w₄ = turns ts w in
    let z = all_rounds v lt n us w₄ m.1 (ap length s.buffer ∙ u.3) (turns_keep ts w i) s.ready in
    record { none_refused = fine_append ts us w s.none_refused z.none_refused; ready = z.ready; buffer = z.buffer }
