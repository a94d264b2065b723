-- The plant at set-up: each table empty is the plant of the rules' set-up, in form and kept.
use mathlib.Core.Path.{◌≡◌, ◌∙◌, ap}
use mathlib.Core.Bool.{true}
use mathlib.Core.List.{[]}
use Rattle.rules.specs.Values as S
use Rattle.rules.specs.Tables as M
use Rattle.rules.specs.Lists.{all}
use Rattle.rules.specs.Reading.{current}
use Rattle.rules.specs.Kept.{kept, plant_rules, cache_rules, is_current}
use Rattle.rules.proofs.KeptTest.{setup_is_kept, kept_iff, every-parts}
use Rattle.rules.proofs.KeptParts.{Kept}
use Rattle.rules.proofs.Laws.{both, and_true}
use Rattle.store.specs.View.{view_store}
use Rattle.keys.specs.View.{view_keys}
use Rattle.cache.specs.View.{view_cache}
use Rattle.sessions.specs.View.{view_sessions}
use Rattle.buffer.specs.View.{view_buffer}
use Rattle.rows.specs.View.{view_rows}
use Rattle.workers.specs.View.{view_hands, view_queue}
use Rattle.plant.specs.View.{view_plant, plant_form, kept_plant}
use Rattle.plant.specs.declared.Plant.{Plant}

module _ (p : Plant) where
  pub empty_shows :
      view_store p.store ≡ (λ q. S.absent) → view_keys p.keys ≡ (λ k. []) → view_cache p.cache ≡ [] → view_sessions p.sessions ≡ []
      → view_buffer p.buffer ≡ [] → view_rows p.rows ≡ [] → view_hands p.hands ≡ (λ w. M.empty) → view_queue p.queue ≡ M.idle
      → p.clock ≡ 0 → p.near ≡ true → p.next ≡ 1 → view_plant p ≡ M.setup
  unfolding view_plant M.setup
  empty_shows s k c l b r h q t n x = λ i. record { store = s i; keys = k i; cache = c i; slots = l i; buffer = b i; rows = r i; hands = h i; queue = q i; clock = t i; near = n i; next = x i }

  pub empty_kept : view_plant p ≡ M.setup → plant_form p ≡ true → kept_plant p ≡ true
  unfolding kept_plant
  empty_kept e f = both _ _ f (ap kept e ∙ setup_is_kept)

  pub kept_parts : kept_plant p ≡ true → Kept (view_plant p)
  unfolding kept_plant
  kept_parts k = (kept_iff (view_plant p)).0 (and_true (plant_form p) (kept (view_plant p)) k).1

  -- the cached keys hold the current fields
  pub cache_current : kept_plant p ≡ true → all (is_current (current (view_plant p)) (view_plant p).keys) (view_plant p).cache ≡ true
  unfolding kept_plant kept
  cache_current k =
      let a = every-parts (plant_rules (view_plant p)) (and_true (plant_form p) (kept (view_plant p)) k).1 in
      (every-parts (cache_rules (current (view_plant p)) (view_plant p).keys (view_plant p).next (view_plant p).cache) a.1.1.0).1.1.1.0
