-- The workers' part of the invariant: take, apply, delete, cut, sweep and commit keep it.
use Prim.Native.Nat.{◌<◌, ℕ}
use mathlib.Core.Path.{◌∙◌, ◌≡◌, ap, refl, subst, sym}
use mathlib.Core.Bool.{cond, false, true, true≢false}
use mathlib.Core.Logic.{inl}
use mathlib.Core.List.{List, [], ◌++◌, ◌∷◌, append_assoc, append-nil}
use lib.ListN.{length}
use lib.Dec.{eqb}
use borrow.Author.Tests.{eqb-true}
use Rattle.rules.specs.Lists.{is_empty, override, has, without}
use Rattle.rules.specs.Limits.{buffer_limit, worker_count}
use Rattle.rules.specs.Values.{Stock}
use Rattle.rules.specs.Changes.{Update, follow}
use Rattle.rules.specs.Tables.{Batch, numbers_of, oldest, is_oldest, batch_of, unbuffer, pending, changes_in, Hand, empty, holds, full, handed, Plant}
use Rattle.rules.specs.Effects.{buffered_after}
use Rattle.rules.specs.History.{changes_of, changes_nothing, Committed, whole}
use Rattle.rules.proofs.Laws.{by_case, follow_append, whole_append, pushed_room, nil_is}
use Rattle.rules.proofs.KeptParts.{NoRows, BufferKept}
use Rattle.rules.proofs.Buffer.{nums_append, pending_append, pending_free, has_last, no_rows_snoc, pending-unbuffer, nums_unbuffer, pending_rows, buffered_nums}
use Rattle.rules.proofs.Sweeping.{rows_left, row_stays}
use Rattle.rules.proofs.Invariant.{Owed, Owes, none_owed, skips, owes, Workers}

pub owes_flat : (S : Stock) (l : List Committed) (bs : List Batch) → Owes S l bs → follow S (changes_in bs) ≡ follow S (whole l)
owes_flat S l bs none_owed = refl
owes_flat S l bs (skips {x = x} {l = k} q e o) =
    owes_flat S k bs o ∙ ap (λ z. follow z (whole k)) (sym e) ∙ sym (follow_append S (changes_of x.page) (whole k))
owes_flat S l bs (owes {x = x} {l = k} {b = b} {bs = ds} d o) =
    follow_append S b.changes (changes_in ds) ∙ ap (λ z. follow z (changes_in ds)) d.does ∙ owes_flat (follow S (changes_of x.page)) k ds o
    ∙ sym (follow_append S (changes_of x.page) (whole k))

owes_snoc : (S : Stock) (l : List Committed) (bs : List Batch) (x : Committed) (b : Batch) → Owes S l bs → Owed (follow S (whole l)) x b
    → Owes S (l ++ (x ∷ [])) (bs ++ (b ∷ []))
owes_snoc S l bs x b none_owed d = owes d none_owed
owes_snoc S l bs x b (skips {x = y} {l = k} q e o) d = skips q e
    (owes_snoc S k bs x b o (subst (λ z. Owed z x b) (follow_append S (changes_of y.page) (whole k) ∙ ap (λ z. follow z (whole k)) e) d))
owes_snoc S l bs x b (owes {x = y} {l = k} {bs = ds} c o) d = owes c
    (owes_snoc _ k ds x b o (subst (λ z. Owed z x b) (follow_append S (changes_of y.page) (whole k)) d))

owes_skip : (S : Stock) (l : List Committed) (bs : List Batch) (x : Committed) → Owes S l bs → changes_nothing x.page ≡ true
    → follow (follow S (whole l)) (changes_of x.page) ≡ follow S (whole l) → Owes S (l ++ (x ∷ [])) bs
owes_skip S l bs x none_owed q d = skips q d none_owed
owes_skip S l bs x (skips {x = y} {l = k} r e o) q d =
    skips r e (owes_skip S k bs x o q
    (subst (λ z. follow z (changes_of x.page) ≡ z) (follow_append S (changes_of y.page) (whole k) ∙ ap (λ z. follow z (whole k)) e) d))
owes_skip S l bs x (owes {x = y} {l = k} {bs = ds} c o) q d = owes c
    (owes_skip _ k ds x o q (subst (λ z. follow z (changes_of x.page) ≡ z) (follow_append S (changes_of y.page) (whole k)) d))

-- ── the value of a field: the store followed by what is pending is the whole history ──
pub current_is_history : {start : Stock} {commits : List Committed} {buffered : List ℕ} {noted : ℕ → ℕ} {store : Stock} {buffer : List Batch} {rows : List ℕ} {hands : ℕ → Hand}
    → Workers start commits buffered noted store buffer rows hands → follow store (changes_in (pending rows buffer)) ≡ follow start (whole commits)
current_is_history {start} {commits} w =
    owes_flat _ _ _ w.owed ∙ rw (w.stock, ← follow_append, ← whole_append, ← w.split) refl

-- ── apply: the oldest buffered session is carried to the store ──
pub record Next (S : Stock) (left : List Committed) (b : Batch) (l : List Batch) : Type 0 where
  pub front : List Committed
  pub back : List Committed
  pub eq : left ≡ front ++ back
  pub what : follow S (whole front) ≡ follow S b.changes
  pub rest : Owes (follow S b.changes) back l

next_of : (S : Stock) (left : List Committed) (b : Batch) (l : List Batch) → Owes S left (b ∷ l) → Next S left b l
next_of S left b l (skips {x = x} {l = k} q e o) =
    let r = next_of S k b l o in
    record {
      front = x ∷ r.front;
      back = r.back;
      eq = ap (λ z. x ∷ z) r.eq;
      what = follow_append S (changes_of x.page) (whole r.front) ∙ ap (λ z. follow z (whole r.front)) e ∙ r.what;
      rest = r.rest;
    }
next_of S left b l (owes {x = x} {l = k} d o) =
    record {
      front =
          x ∷ [];
      back =
          k;
      eq = refl;
      what = ap (follow S) (append-nil (changes_of x.page)) ∙ sym d.does;
      rest = subst (λ z. Owes z k l) (sym d.does) o;
    }

pub workers_carry : {start : Stock} {commits : List Committed} {buffered : List ℕ} {noted : ℕ → ℕ} {store : Stock}
    (buffer : List Batch) {rows : List ℕ} {hands : ℕ → Hand} {next : ℕ}
    (n : ℕ) → is_oldest n buffer ≡ true → has n rows ≡ false → BufferKept store rows next buffer
    → Workers start commits buffered noted store buffer rows hands
    → Workers start commits buffered noted (follow store (batch_of n buffer)) buffer (rows ++ (n ∷ [])) hands
workers_carry [] n e h k i = absurd (true≢false (sym e))
workers_carry {start} {commits} {buffered} {noted} {store} (b ∷ l) {rows} {hands} n e h k i =
    go (next_of store i.left b l (subst (λ z. Owes store i.left z) pending-all i.owed))
  where
    same : b.number ≡ n
    same = sym (eqb-true n b.number e)

    unapplied : NoRows rows (b ∷ l)
    unapplied = (rw same h, k.tail)

    pending-all : pending rows (b ∷ l) ≡ b ∷ l
    pending-all = pending_free rows (b ∷ l) unapplied

    others : has n (numbers_of l) ≡ false
    others = rw same at k.once.0

    go : Next store i.left b l → Workers start commits buffered noted (follow store (batch_of n (b ∷ l))) (b ∷ l) (rows ++ (n ∷ [])) hands
    go r =
        record {
          done = i.done ++ r.front;
          left = r.back;
          split = rw (i.split, r.eq) (sym (append_assoc i.done r.front r.back));
          stock =
              rw e (sym r.what ∙ rw (i.stock, whole_append i.done r.front)
              (sym (follow_append start (whole i.done) (whole r.front))));
          owed = rw (e, same, has_last n rows, pending_free (rows ++ (n ∷ [])) l (no_rows_snoc n rows l others k.tail)) r.rest;
          names = i.names;
          hand = i.hand;
        }

module _ {start : Stock} {commits : List Committed} {buffered : List ℕ} {noted : ℕ → ℕ} {store : Stock} {buffer : List Batch} {rows : List ℕ} {hands : ℕ → Hand} where
  pub workers_hands : (noted' : ℕ → ℕ) (hands' : ℕ → Hand) → Workers start commits buffered noted store buffer rows hands
      → ((v : ℕ) → v < worker_count → full (hands' v) ≡ true → noted' v ≡ handed (hands' v))
      → Workers start commits buffered noted' store buffer rows hands'
  workers_hands noted' hands' i h =
      record {
        done = i.done;
        left = i.left;
        split = i.split;
        stock = i.stock;
        owed = i.owed;
        names = i.names;
        hand = h;
      }

  pub workers_take : (w : ℕ) → Workers start commits buffered noted store buffer rows hands
      → Workers start commits buffered (override noted w (oldest buffer)) store buffer rows (override hands w (holds (oldest buffer) false))
  workers_take w i = workers_hands _ _ i (λ v h. by_case (eqb v w) (λ t. rw t (λ g. refl)) (λ t. rw t (i.hand v h)))

  pub workers_cut : (w : ℕ) → Workers start commits buffered noted store buffer rows hands
      → Workers start commits buffered noted store buffer rows (override hands w empty)
  workers_cut w i = workers_hands _ _ i (λ v h. by_case (eqb v w) (λ t. rw t (λ g. absurd (true≢false (sym g)))) (λ t. rw t (i.hand v h)))

  pub workers_reply : (w : ℕ) → w < worker_count → full (hands w) ≡ true → Workers start commits buffered noted store buffer rows hands
      → Workers start commits buffered noted store buffer rows (override hands w (holds (handed (hands w)) true))
  workers_reply w lt f i =
      workers_hands _ _ i (λ v h. by_case (eqb v w) (λ t. rw (t, eqb-true v w t) (λ g. i.hand w lt f)) (λ t. rw t (i.hand v h)))

module _ {start : Stock} {commits : List Committed} {buffered : List ℕ} {noted : ℕ → ℕ} {store : Stock} {buffer : List Batch} {rows : List ℕ} {hands : ℕ → Hand} where
  pub workers_delete : (n : ℕ) → has n rows ≡ true → Workers start commits buffered noted store buffer rows hands
      → Workers start commits (without n buffered) noted store (unbuffer n buffer) rows hands
  workers_delete n h i =
      record {
        done = i.done;
        left = i.left;
        split = i.split;
        stock = i.stock;
        owed = rw (pending-unbuffer n rows buffer h) i.owed;
        names = nums_unbuffer n buffer ∙ ap (without n) i.names;
        hand = i.hand;
      }

pub workers_sweep : {start : Stock} {commits : List Committed} {buffered : List ℕ} {noted : ℕ → ℕ} (p : Plant)
    → Workers start commits buffered noted p.store p.buffer p.rows p.hands
    → Workers start commits buffered noted p.store p.buffer (rows_left p) p.hands
workers_sweep p i =
    record {
      done = i.done;
      left = i.left;
      split = i.split;
      stock = i.stock;
      owed =
          rw (pending_rows p.rows (rows_left p) p.buffer (λ n e. row_stays p n (inl (buffered_nums n p.buffer ∙ e))))
          i.owed;
      names = i.names;
      hand = i.hand;
    }

module _ {start : Stock} {commits : List Committed} {buffered : List ℕ} {noted : ℕ → ℕ} {store : Stock} {buffer : List Batch} {rows : List ℕ} {hands : ℕ → Hand} where
  pub workers_commit : (x : Committed) (cs : List Update) → (is_empty cs ≡ false → length buffer < buffer_limit) → has x.number rows ≡ false
      → changes_nothing x.page ≡ is_empty cs
      → follow (follow start (whole commits)) cs ≡ follow (follow start (whole commits)) (changes_of x.page)
      → Workers start commits buffered noted store buffer rows hands
      → Workers start (commits ++ (x ∷ [])) (cond (changes_nothing x.page) buffered (buffered ++ (x.number ∷ []))) noted store
      (buffered_after x.number cs buffer) rows hands
  workers_commit x cs r nr q d i = by_case (is_empty cs) unchanged longer
    where
      split' : commits ++ (x ∷ []) ≡ i.done ++ (i.left ++ (x ∷ []))
      split' = rw i.split (append_assoc i.done i.left (x ∷ []))

      at_now : follow store (whole i.left) ≡ follow start (whole commits)
      at_now = rw (i.stock, ← follow_append, ← whole_append, ← i.split) refl

      Goal : Type 0
      Goal =
          Workers start (commits ++ (x ∷ [])) (cond (changes_nothing x.page) buffered (buffered ++ (x.number ∷ []))) noted store
          (buffered_after x.number cs buffer) rows hands

      unchanged : is_empty cs ≡ true → Goal
      unchanged t =
          rw (q, t)
          record {
            done = i.done;
            left = i.left ++ (x ∷ []);
            split = split';
            stock = i.stock;
            owed =
                owes_skip store i.left (pending rows buffer) x i.owed (q ∙ t)
                (rw at_now (sym d ∙ ap (follow (follow start (whole commits))) (nil_is cs t)));
            names = i.names;
            hand = i.hand;
          }

      longer : is_empty cs ≡ false → Goal
      longer t =
          rw (q, t, pushed_room buffer_limit buffer (record { number = x.number; changes = cs }) (r t))
          record {
            done = i.done;
            left = i.left ++ (x ∷ []);
            split = split';
            stock = i.stock;
            owed = rw (pending_append rows buffer (record { number = x.number; changes = cs } ∷ []), nr)
                (owes_snoc store i.left (pending rows buffer) x (record { number = x.number; changes = cs }) i.owed
                (record { number = refl; loud = q ∙ t; does = rw at_now d }));
            names = nums_append buffer _ ∙ ap (λ z. z ++ (x.number ∷ [])) i.names;
            hand = i.hand;
          }
