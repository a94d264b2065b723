-- Pages and changes under leases: what lies apart from them stays, what agrees on them is the same.
use Prim.Native.Nat.{ℕ}
use mathlib.Core.Path.{◌∙◌, ◌≡◌, ap, ap₂, refl, sym}
use mathlib.Core.Bool.{◌&&◌, cond, false, true}
use mathlib.Core.List.{List, [], ◌++◌, ◌∷◌, map}
use lib.Dec.{eqb}
use Rattle.rules.specs.Values.{Place, same_place, Field, Stock, show_all}
use Rattle.rules.specs.Changes.{Update, meets, updated, field_after, run, follow}
use Rattle.rules.specs.Tables.{Lease, free, shared, exclusive, is_held, is_exclusive}
use Rattle.rules.specs.History.{saw, wrote, Page, changes_of}
use Rattle.rules.specs.Demand3.{Right}
use Rattle.rules.proofs.Invariant.{HeldAll, Held, AllEx}

pub ex_held : (x : Lease) → is_exclusive x ≡ true → is_held x ≡ true
ex_held free h = h
ex_held (shared t) h = refl
ex_held (exclusive t) h = refl

abbrev pub Agree : (ℕ → Lease) → Stock → Stock → Type 0
Agree lease s t = (q : Place) → is_held (lease q.document) ≡ true → s q ≡ t q

pub map_agree : (lease : ℕ → Lease) (s t : Stock) (qs : List Place) → Agree lease s t → HeldAll lease qs → map s qs ≡ map t qs
map_agree lease s t [] a h = refl
map_agree lease s t (q ∷ qs) a h = ap₂ ◌∷◌ (a q h.0) (map_agree lease s t qs a h.1)

pub right_agree : (lease : ℕ → Lease) (s t : Stock) (page : Page) → Agree lease s t → Held lease page → Right s page → Right t page
unfolding field_after
right_agree lease s t [] a h r = tt
right_agree lease s t (saw qs ws ∷ l) a h r = (r.0 ∙ ap show_all (map_agree lease s t qs a h.0), right_agree lease s t l a h.1 r.1)
right_agree lease s t (wrote c ∷ l) a h r = (
  ap (meets c) (sym (a c.at (ex_held (lease c.at.document) h.0))) ∙ r.0,
  right_agree lease (follow s (c ∷ [])) (follow t (c ∷ [])) l (λ q z. ap (λ f. cond (same_place q c.at) (updated c f) f) (a q z)) h.1 r.1,
)

-- changes of documents that are held exclusively leave the other documents
pub run_apart : (lease : ℕ → Lease) (page : Page) (q : Place) (f : Field) → Held lease page
    → ((d : ℕ) → is_exclusive (lease d) ≡ true → eqb q.document d ≡ false) → run (changes_of page) q f ≡ f
unfolding field_after
run_apart lease [] q f h z = refl
run_apart lease (saw qs ws ∷ l) q f h z = run_apart lease l q f h.1 z
run_apart lease (wrote c ∷ l) q f h z =
    ap (λ b. run (changes_of l) q (cond (b && eqb q.field c.at.field) (updated c f) f)) (z c.at.document h.0) ∙ run_apart lease l q f
    h.1 z

-- the same of a list of changes
pub run_off : (lease : ℕ → Lease) (cs : List Update) (q : Place) (f : Field) → AllEx lease cs
    → ((d : ℕ) → is_exclusive (lease d) ≡ true → eqb q.document d ≡ false) → run cs q f ≡ f
unfolding field_after
run_off lease [] q f h z = refl
run_off lease (c ∷ l) q f h z =
    ap (λ b. run l q (cond (b && eqb q.field c.at.field) (updated c f) f)) (z c.at.document h.0) ∙ run_off lease l q f h.1 z

pub record Grows (a b : ℕ → Lease) : Type 0 where
  pub keeps_held : (d : ℕ) → is_held (a d) ≡ true → is_held (b d) ≡ true
  pub keeps_ex : (d : ℕ) → is_exclusive (a d) ≡ true → is_exclusive (b d) ≡ true

pub held_all_grows : (a b : ℕ → Lease) (qs : List Place) → Grows a b → HeldAll a qs → HeldAll b qs
held_all_grows a b [] g h = tt
held_all_grows a b (q ∷ qs) g h = (g.keeps_held q.document h.0, held_all_grows a b qs g h.1)

pub held_grows : (a b : ℕ → Lease) (page : Page) → Grows a b → Held a page → Held b page
held_grows a b [] g h = tt
held_grows a b (saw qs ws ∷ l) g h = (held_all_grows a b qs g h.0, held_grows a b l g h.1)
held_grows a b (wrote c ∷ l) g h = (g.keeps_ex c.at.document h.0, held_grows a b l g h.1)

pub all_ex_grows : (a b : ℕ → Lease) (cs : List Update) → Grows a b → AllEx a cs → AllEx b cs
all_ex_grows a b [] g h = tt
all_ex_grows a b (c ∷ cs) g h = (g.keeps_ex c.at.document h.0, all_ex_grows a b cs g h.1)

pub all_ex_snoc : (a : ℕ → Lease) (cs : List Update) (c : Update) → AllEx a cs → is_exclusive (a c.at.document) ≡ true → AllEx a (cs ++ (c ∷ []))
all_ex_snoc a [] c h e = (e, tt)
all_ex_snoc a (x ∷ cs) c h e = (h.0, all_ex_snoc a cs c h.1 e)

pub held_append : (a : ℕ → Lease) (x y : Page) → Held a x → Held a y → Held a (x ++ y)
held_append a [] y h k = k
held_append a (saw qs ws ∷ x) y h k = (h.0, held_append a x y h.1 k)
held_append a (wrote c ∷ x) y h k = (h.0, held_append a x y h.1 k)
