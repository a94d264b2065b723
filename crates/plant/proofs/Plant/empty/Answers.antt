-- `Plant::empty` meets its contract.
use Rattle.plant.proofs.Formed.{formed}
use mathlib.Core.Path.{refl}
use Rattle.plant.proofs.PlantLaws.{empty_shows, empty_kept}
use Rattle.plant.proofs.Plant.empty.Goals as goal

pub returns : goal.returns
returns c =
    let s = empty_shows _ c.empty-store.ensures.shows c.empty-keys.ensures.shows c.empty-cache.ensures.shows c.empty-sessions.ensures.shows c.empty-buffer.ensures.shows c.empty-rows.ensures.shows c.empty-hands.ensures.shows c.empty-queue.ensures.shows refl refl refl in
    record {
      shows = s;
      kept = empty_kept _ s (formed _ (record { store = c.empty-store.ensures.form; keys = c.empty-keys.ensures.form; cache = c.empty-cache.ensures.form; sessions = c.empty-sessions.ensures.form; buffer = c.empty-buffer.ensures.form; rows = c.empty-rows.ensures.form; hands = c.empty-hands.ensures.form; queue = c.empty-queue.ensures.form }));
    }
