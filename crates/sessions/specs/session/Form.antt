-- The one form of a session: what its view does not show is 0. That a doomed session holds nothing is the rules' own.
use Rattle.std.specs.Prelude.{ℕ, ◌^◌, Bool, cond, not, ◌&&◌, ◌||◌, List, length, get_or, eqb, ltb}
use Rattle.rules.specs.Limits.{document_count}
use Rattle.rules.specs.Lists.{all, is_empty}
use Rattle.rules.specs.Tables.{documents}
use Rattle.docset.specs.Sets.{docs}
use Rattle.changes.specs.View.{view_changes}
use Rattle.changes.specs.Form.{changes_form}
use Rattle.sessions.specs.declared.session.Session.{Session}

-- a document is in one of the sets at most, and has a tick only where it is in one
unfoldable pub lease_form : Bool → Bool → ℕ → Bool
lease_form shared exclusive tick = cond exclusive (not shared) (shared || eqb tick 0)

-- the sets hold documents only
unfoldable pub leases_form : ℕ → ℕ → List ℕ → Bool
leases_form shared exclusive granted =
    ltb shared (2 ^ document_count) && ltb exclusive (2 ^ document_count) && eqb (length granted) document_count
    && all (λ d. lease_form (docs shared d) (docs exclusive d) (get_or granted d 0)) documents

unfoldable pub session_form : Session → Bool
session_form s = leases_form s.shared s.exclusive s.granted && changes_form s.changes

-- all 0 but for its number, and doomed
unfoldable pub is_bare : Session → Bool
is_bare s = session_form s && s.doomed && eqb s.begun 0 && eqb s.shared 0 && eqb s.exclusive 0 && is_empty (view_changes s.changes)

-- what a slot that is not in use holds
unfoldable pub is_unused : Session → Bool
is_unused s = eqb s.number 0 && is_bare s
