-- `Cached::field` meets its contract.
use borrow.Author.Rules.{rules}
use borrow.Author.Tests.{tests}
use lib.ListN.{take}
use Rattle.std.proofs.lemmas.Iterator.{YieldsList-from_slice, YieldsList-from_zip}
use Rattle.std.proofs.lemmas.Iterator.Search.{find_from_yields_List}
use Rattle.rules.specs.Values as S
use Rattle.keys.specs.View.{view_place}
use Rattle.cache.proofs.cached.CachedLaws.{field_shows, field_in_form}
use Rattle.cache.proofs.cached.Cached.field.Goals as goal

pub returns : goal.returns
returns c =
    let places = YieldsList-from_slice c.shown-places.result.now (search rules) in
    let fields = YieldsList-from_slice (take c.args.self.count c.args.self.fields) (search rules) in
    let found = find_from_yields_List (λ p. S.same_place (view_place c.args.q) (view_place p.0)) c.find-shown.new.self _ c.find-shown.result c.find-shown.ensures.ran (YieldsList-from_zip {s = c.zip.result} places fields) (λ x b q k. search (rules, tests)) in
    record {
      shows = field_shows _ _ _ _ _ _ found c.map_or.ensures (λ x p. search rules) _ c.shown-places.ensures c.empty.ensures.shows;
      form = field_in_form _ _ _ _ _ _ found c.map_or.ensures (λ x p. search rules) c.empty.ensures.form;
    }
