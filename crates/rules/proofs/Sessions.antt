-- The sessions' part of the invariant: pages of live sessions are right at the end of the history.
use Prim.Native.Nat.{◌<◌, ℕ}
use mathlib.Core.Path.{◌∙◌, ◌≡◌, ap, fun_ext, refl, subst, sym}
use mathlib.Core.Bool.{Bool, cond, false, true, true≢false}
use mathlib.Core.Option.{none}
use mathlib.Core.List.{List, [], ◌++◌, ◌∷◌, append-nil, map}
use lib.ListN.{length}
use lib.Dec.{eqb}
use lib.IntN.{ℤ}
use borrow.Author.Tests.{eqb-false, eqb-true, ne_eqb}
use Rattle.rules.specs.Lists.{is_empty, override}
use Rattle.rules.specs.Limits.{change_limit}
use Rattle.rules.specs.Values.{Place, Stock, show_all}
use Rattle.rules.specs.Changes.{Update, meets, run, follow}
use Rattle.rules.specs.Tables.{Lease, free, shared, exclusive, is_held, is_exclusive, Session, doomed_session, session}
use Rattle.rules.specs.Effects.{opened, document_in, or_shared, with_shared, only_at, to_exclusive, with_exclusive, with_last, with_change, grant, lapses, lapse}
use Rattle.rules.specs.History.{saw, wrote, Page, changes_of}
use Rattle.rules.proofs.Laws.{by_case, self, run_append, changes_append, right_append, pushed_room, nil_snoc}
use Rattle.rules.proofs.Invariant.{HeldAll, Live, Sessions}
use Rattle.rules.proofs.Leases.{ex_held, Agree, right_agree, run_apart, run_off, Grows, held_grows, all_ex_grows, all_ex_snoc, held_append}

-- every session that is there is changed
pub sessions_each : {now : Stock} (look : ℕ → Session) (there : ℕ → Bool) (page' : ℕ → Page) (f : ℕ → Session → Session)
    → ((m : ℕ) → (f m (look m)).doomed ≡ false → Live now (page' m) (f m (look m)))
    → ((n m d : ℕ) → (n ≡ m → ⊥) → is_exclusive ((f n (look n)).lease d) ≡ true → is_held ((f m (look m)).lease d) ≡ false)
    → Sessions now page' (λ m. cond (there m) (f m (look m)) doomed_session)
sessions_each look there page' f a b =
    record {
      live = λ m d. by_case (there m) (λ e. rw e (a m (rw e at d))) (λ e. absurd (true≢false (rw e at d)));
      apart =
          λ k m d ne x. by_case (there m) (λ e. rw e (b k m d ne (by_case (there k) (λ t. rw t at x) (λ t. absurd (true≢false (sym (rw t at x)))))))
          (λ e. rw e);
    }

module _ {now : Stock} {page : ℕ → Page} {look : ℕ → Session} where
  pub sessions_cast : (look' : ℕ → Session) → Sessions now page look → ((n : ℕ) → look' n ≡ look n) → Sessions now page look'
  sessions_cast look' i a = subst (λ x. Sessions now page x) (fun_ext (λ n. sym (a n))) i

  -- a session ends
  pub sessions_end : (n : ℕ) → Sessions now page look → Sessions now page (λ m. cond (eqb m n) doomed_session (look m))
  sessions_end n i =
      record {
        live = λ m d. by_case (eqb m n) (λ e. absurd (true≢false (rw e at d))) (λ e. rw e (i.live m (rw e at d)));
        apart =
            λ k m d ne x. by_case (eqb m n) (λ e. rw e)
            (λ e. rw e (i.apart k m d ne (by_case (eqb k n) (λ t. absurd (true≢false (sym (rw t at x)))) (λ t. rw t at x))));
      }

-- ── one session reads, changes ──
pub shared_grows : (now : ℕ) (qs : List Place) (t : Session) → Grows t.lease (with_shared now qs t).lease
shared_grows now qs t =
    record {
      keeps_held = λ d h. by_case (document_in d qs) (λ e. rw e (kh (t.lease d) h)) (λ e. rw e h);
      keeps_ex = λ d h. by_case (document_in d qs) (λ e. rw e (ke (t.lease d) h)) (λ e. rw e h);
    }
  where
    kh : (x : Lease) → is_held x ≡ true → is_held (or_shared now x) ≡ true
    kh free h = refl
    kh (shared u) h = refl
    kh (exclusive u) h = refl

    ke : (x : Lease) → is_exclusive x ≡ true → is_exclusive (or_shared now x) ≡ true
    ke free h = h
    ke (shared u) h = h
    ke (exclusive u) h = refl

pub shared-ex : (now : ℕ) (qs : List Place) (t : Session) (d : ℕ) → is_exclusive ((with_shared now qs t).lease d) ≡ true
    → is_exclusive (t.lease d) ≡ true
shared-ex now qs t d h = by_case (document_in d qs) (λ e. ke (t.lease d) (rw e at h)) (λ e. rw e at h)
  where
    ke : (x : Lease) → is_exclusive (or_shared now x) ≡ true → is_exclusive x ≡ true
    ke free z = z
    ke (shared u) z = z
    ke (exclusive u) z = refl

pub held_docs : (now : ℕ) (t : Session) (all qs : List Place) → ((d : ℕ) → document_in d qs ≡ true → document_in d all ≡ true)
    → HeldAll (with_shared now all t).lease qs
held_docs now t all [] h = tt
held_docs now t all (q ∷ qs) h = (
  rw (h q.document (rw (self q.document))) (kh (t.lease q.document)),
  held_docs now t all qs
      (λ d e. h d (by_case (eqb d q.document) (λ x. rw x) (λ x. rw x e))),
)
  where
    kh : (x : Lease) → is_held (or_shared now x) ≡ true
    kh free = refl
    kh (shared u) = refl
    kh (exclusive u) = refl

pub live_read : (now : Stock) (clock : ℕ) (pg : Page) (t : Session) (qs : List Place) (ws : List ℤ) → Live now pg t
    → ws ≡ show_all (map (follow now (changes_of pg)) qs)
    → Live now (pg ++ (saw qs ws ∷ [])) (with_shared clock qs t)
live_read now clock pg t qs ws l e =
    record {
      right = right_append now pg (saw qs ws ∷ []) l.right (e, tt);
      same = λ q. ap (λ z. follow now z q) (changes_append pg (saw qs ws ∷ []) ∙ append-nil (changes_of pg)) ∙ l.same q;
      silent = ap is_empty (changes_append pg (saw qs ws ∷ []) ∙ append-nil (changes_of pg)) ∙ l.silent;
      mine = all_ex_grows _ _ t.changes (shared_grows clock qs t) l.mine;
      held = held_append _ pg (saw qs ws ∷ []) (held_grows _ _ pg (shared_grows clock qs t) l.held) (held_docs clock t qs qs (λ d h. h), tt);
    }

pub change_grows : (now : ℕ) (c : Update) (t : Session) → Grows t.lease (with_change now c t).lease
unfolding with_exclusive with_last
change_grows now c t =
    record {
      keeps_held = λ d h. by_case (eqb d c.at.document) (λ e. rw e (kh (t.lease d))) (λ e. rw e h);
      keeps_ex = λ d h. by_case (eqb d c.at.document) (λ e. rw e (ke (t.lease d))) (λ e. rw e h);
    }
  where
    kh : (x : Lease) → is_held (to_exclusive now x) ≡ true
    kh free = refl
    kh (shared u) = refl
    kh (exclusive u) = refl

    ke : (x : Lease) → is_exclusive (to_exclusive now x) ≡ true
    ke free = refl
    ke (shared u) = refl
    ke (exclusive u) = refl

pub live_change : (now : Stock) (clock : ℕ) (pg : Page) (t : Session) (c : Update) → length t.changes < change_limit → Live now pg t
    → meets c (follow now (changes_of pg) c.at) ≡ none
    → Live now (pg ++ (wrote c ∷ [])) (with_change clock c t)
unfolding with_exclusive with_last
live_change now clock pg t c r l e =
    rw (pushed_room change_limit t.changes c r)
    record {
      right = right_append now pg (wrote c ∷ []) l.right (e, tt);
      same = λ q.
          ap (λ x. follow now x q) (changes_append pg (wrote c ∷ [])) ∙ run_append (changes_of pg) (c ∷ []) q (now q)
          ∙ ap (λ f. run (c ∷ []) q f) (l.same q) ∙ sym (run_append t.changes (c ∷ []) q (now q));
      silent = ap is_empty (changes_append pg (wrote c ∷ [])) ∙ nil_snoc (changes_of pg) c ∙ sym (nil_snoc t.changes c);
      mine = all_ex_snoc _ t.changes c (all_ex_grows _ _ t.changes (change_grows clock c t) l.mine) ex;
      held = held_append _ pg (wrote c ∷ []) (held_grows _ _ pg (change_grows clock c t) l.held) (ex, tt);
    }
  where
    ke : (x : Lease) → is_exclusive (to_exclusive clock x) ≡ true
    ke free = refl
    ke (shared u) = refl
    ke (exclusive u) = refl

    ex : is_exclusive ((with_change clock c t).lease c.at.document) ≡ true
    ex = rw (self c.at.document) (ke (t.lease c.at.document))

module _ {now : Stock} {page : ℕ → Page} {look : ℕ → Session} where
  pub sessions_read : (there : ℕ → Bool) (clock s : ℕ) (qs : List Place) (ws : List ℤ) → (look s).doomed ≡ false
      → ws ≡ show_all (map (follow now (changes_of (page s))) qs)
      → ((d n : ℕ) → document_in d qs ≡ true → eqb n s ≡ false → is_exclusive ((look n).lease d) ≡ false)
      → Sessions now page look
      → Sessions now (override page s (page s ++ (saw qs ws ∷ []))) (λ m. cond (there m) (only_at s (with_shared clock qs) m (look m)) doomed_session)
  unfolding only_at
  sessions_read there clock s qs ws a e o i =
      sessions_each look there _ (only_at s (with_shared clock qs))
      (λ m d. by_case (eqb m s)
      (λ t. rw (t, eqb-true m s t) (live_read now clock (page s) (look s) qs ws (i.live s a) e))
      (λ t. rw t (i.live m (rw t at d))))
      (λ n m d ne x. by_case (eqb m s)
      (λ t. rw t (reader n m d ne (eqb-true m s t) (was n d x)))
      (λ t. rw t (i.apart n m d ne (was n d x))))
    where
      was : (n d : ℕ) → is_exclusive ((only_at s (with_shared clock qs) n (look n)).lease d) ≡ true → is_exclusive ((look n).lease d) ≡ true
      was n d x = by_case (eqb n s) (λ t. shared-ex clock qs (look n) d (rw t at x)) (λ t. rw t at x)

      reader : (n m d : ℕ) → (n ≡ m → ⊥) → m ≡ s → is_exclusive ((look n).lease d) ≡ true → is_held ((with_shared clock qs (look m)).lease d) ≡ false
      reader n m d ne q x =
          by_case (document_in d qs) (λ t. absurd (true≢false (sym x ∙ o d n t (ne_eqb n s (λ z. ne (z ∙ sym q)))))) (λ t. rw t (i.apart n m d ne x))

  pub sessions_change : (there : ℕ → Bool) (clock s : ℕ) (c : Update) → (look s).doomed ≡ false → length (look s).changes < change_limit
      → meets c (follow now (changes_of (page s)) c.at) ≡ none
      → ((n : ℕ) → eqb n s ≡ false → is_exclusive ((look n).lease c.at.document) ≡ false)
      → Sessions now page look
      → Sessions now (override page s (page s ++ (wrote c ∷ []))) (λ m. cond (there m) (grant clock s c m (look m)) doomed_session)
  unfolding grant with_exclusive with_last
  sessions_change there clock s c a r e o i =
      sessions_each look there _ (grant clock s c)
      (λ m d. by_case (eqb m s)
      (λ t. rw (t, eqb-true m s t) (live_change now clock (page s) (look s) c r (i.live s a) e))
      (λ t. rw t (by_case (is_held ((look m).lease c.at.document)) (λ u. absurd (true≢false (rw (t, u) at d)))
      (λ u. rw u (i.live m (rw (t, u) at d))))))
      (λ n m d ne x. by_case (eqb m s) (λ t. rw t (writer n m d ne (eqb-true m s t) x)) (λ t. rw t (other n m d ne t x)))
    where
      -- another session: it keeps what it had, or has lost all
      was : (n d : ℕ) → eqb n s ≡ false → is_exclusive ((grant clock s c n (look n)).lease d) ≡ true → is_exclusive ((look n).lease d) ≡ true
      was n d t x = by_case (is_held ((look n).lease c.at.document)) (λ u. absurd (true≢false (sym (rw (t, u) at x)))) (λ u. rw (t, u) at x)

      writer : (n m d : ℕ) → (n ≡ m → ⊥) → m ≡ s → is_exclusive ((grant clock s c n (look n)).lease d) ≡ true
          → is_held ((with_change clock c (look m)).lease d) ≡ false
      writer n m d ne q x = go (ne_eqb n s (λ z. ne (z ∙ sym q)))
        where
          go : eqb n s ≡ false → is_held ((with_change clock c (look m)).lease d) ≡ false
          go t =
              by_case (eqb d c.at.document)
              (λ u. absurd (true≢false (sym (rw (eqb-true d c.at.document u) at (was n d t x)) ∙ o n t)))
              (λ u. rw u (i.apart n m d ne (was n d t x)))

      other : (n m d : ℕ) → (n ≡ m → ⊥) → eqb m s ≡ false → is_exclusive ((grant clock s c n (look n)).lease d) ≡ true
          → is_held ((cond (is_held ((look m).lease c.at.document)) doomed_session (look m)).lease d) ≡ false
      other n m d ne t x =
          by_case (is_held ((look m).lease c.at.document)) (λ u. rw u)
          (λ u. rw u
          (by_case (eqb n s)
          (λ v. by_case (eqb d c.at.document) (λ y. rw (eqb-true d c.at.document y) u) (λ y. i.apart n m d ne (rw (v, y) at x)))
          (λ v. i.apart n m d ne (was n d v x))))

  pub sessions_lapse : (there : ℕ → Bool) (clock : ℕ) → Sessions now page look
      → Sessions now page (λ m. cond (there m) (lapse clock m (look m)) doomed_session)
  unfolding lapse
  sessions_lapse there clock i =
      sessions_each look there page (lapse clock)
      (λ m d. by_case (lapses clock (look m)) (λ t. absurd (true≢false (rw t at d))) (λ t. rw t (i.live m (rw t at d))))
      (λ n m d ne x. by_case (lapses clock (look m)) (λ t. rw t) (λ t. rw t (i.apart n m d ne (was n d x))))
    where
      was : (n d : ℕ) → is_exclusive ((lapse clock n (look n)).lease d) ≡ true → is_exclusive ((look n).lease d) ≡ true
      was n d x = by_case (lapses clock (look n)) (λ t. absurd (true≢false (sym (rw t at x)))) (λ t. rw t at x)

  -- the session commits: the others' pages are untouched by its changes
  pub sessions_commit : (s : ℕ) → (look s).doomed ≡ false → Sessions now page look
      → Sessions (follow now (changes_of (page s))) page (λ m. cond (eqb m s) doomed_session (look m))
  sessions_commit s a i =
      record {
        live = λ m d. by_case (eqb m s) (λ e. absurd (true≢false (rw e at d))) (λ e. rw e (kept m e (i.live m (rw e at d))));
        apart = (sessions_end s i).apart;
      }
    where
      clash : (m d : ℕ) (q : Place) → eqb m s ≡ false → is_held ((look m).lease q.document) ≡ true → is_exclusive ((look s).lease d) ≡ true
          → q.document ≡ d → ⊥
      clash m d q e z x w = true≢false (sym (rw w at z) ∙ i.apart s m d (λ y. eqb-false m s e (sym y)) x)

      agree : (m : ℕ) → eqb m s ≡ false → Agree (look m).lease now (follow now (changes_of (page s)))
      agree m e q z = sym (run_apart (look s).lease (page s) q (now q) (i.live s a).held (λ d x. ne_eqb q.document d (clash m d q e z x)))

      still : (m : ℕ) → eqb m s ≡ false → Live now (page m) (look m) → (q : Place)
          → follow (follow now (changes_of (page s))) (changes_of (page m)) q ≡ follow (follow now (changes_of (page s))) (look m).changes q
      still m e l q =
          by_case (is_held ((look m).lease q.document))
          (λ z. rw (← agree m e q z) (l.same q))
          (λ z. run_apart (look m).lease (page m) q _ l.held (away z) ∙ sym
          (run_off (look m).lease (look m).changes q _ l.mine (away z)))
        where
          away : is_held ((look m).lease q.document) ≡ false → (d : ℕ) → is_exclusive ((look m).lease d) ≡ true → eqb q.document d ≡ false
          away z d x = ne_eqb q.document d (λ y. true≢false (sym (ex_held ((look m).lease d) x) ∙ rw y at z))

      kept : (m : ℕ) → eqb m s ≡ false → Live now (page m) (look m) → Live (follow now (changes_of (page s))) (page m) (look m)
      kept m e l = record {
        right = right_agree (look m).lease now _ (page m) (agree m e) l.held l.right;
        same = still m e l;
        silent = l.silent;
        mine = l.mine;
        held = l.held;
      }

  -- a session begins, under a number that has no slot
  pub sessions_open : (there : ℕ → Bool) (next clock : ℕ) → there next ≡ false → Sessions now page look
      → Sessions now (override page next []) (λ m. cond (there m) (look m) (session m (opened next clock ∷ [])))
  sessions_open there next clock unused i =
      record {
        live = λ m d. by_case (there m) (λ e. rw (e, old m e) (i.live m (rw e at d)))
            (λ e. rw e (by_case (eqb m next) (λ t. rw t (record { right = tt; same = λ q. refl; silent = refl; mine = tt; held = tt }))
            (λ t. absurd (true≢false (rw (e, t) at d)))));
        apart =
            λ n m d ne x. by_case (there m)
            (λ e. rw e (by_case (there n) (λ t. i.apart n m d ne (rw t at x)) (λ t. absurd (true≢false (sym (rw t at x) ∙ none-ex n d)))))
            (λ e. rw e (none_held m d));
      }
    where
      old : (m : ℕ) → there m ≡ true → eqb m next ≡ false
      old m e = by_case (eqb m next) (λ t. absurd (true≢false (sym e ∙ ap there (eqb-true m next t) ∙ unused))) (λ t. t)

      none_held : (m d : ℕ) → is_held ((session m (opened next clock ∷ [])).lease d) ≡ false
      none_held m d = by_case (eqb m next) (λ e. rw e) (λ e. rw e)

      none-ex : (m d : ℕ) → is_exclusive ((session m (opened next clock ∷ [])).lease d) ≡ false
      none-ex m d = by_case (eqb m next) (λ e. rw e) (λ e. rw e)
