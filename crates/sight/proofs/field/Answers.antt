-- `field` meets its contract.
use Rattle.sight.proofs.Laws.{value_near, value_away}
use Rattle.keys.specs.View.{view_place, view_keys}
use Rattle.changes.specs.View.{view_changes}
use Rattle.store.specs.View.{view_store}
use Rattle.rows.specs.View.{view_rows}
use Rattle.buffer.specs.View.{view_buffer}
use Rattle.cache.specs.View.{view_cache}
use Rattle.sight.proofs.field.Goals as goal

pub returns-then-near : goal.returns-then-near
returns-then-near c =
    let a = c.args in
    record {
      shows = value_near _ (view_store a.store) (view_keys a.keys) (view_cache a.cache) (view_buffer a.buffer) (view_rows a.rows) (view_changes a.own) (view_place a.q) c.if-near.true _ _ c.field-stored.ensures.shows c.seen.ensures.shows;
      form = λ f g. c.seen.ensures.form (c.field-stored.ensures.form f);
    }

pub returns : goal.returns
returns c =
    let a = c.args in
    record {
      shows = value_away _ (view_store a.store) (view_keys a.keys) (view_cache a.cache) (view_buffer a.buffer) (view_rows a.rows) (view_changes a.own) (view_place a.q) c.if-near.false _ c.seen_away.ensures.shows;
      form = λ f g. c.seen_away.ensures.form g;
    }
