-- A field and the answer of a change as the rules see them, for all that the struct can hold, and a field's form.
use Rattle.std.specs.Prelude.{ℕ, Bool, ◌&&◌, cond, eqb, pos, get_or, length, take, Result, Ok, Err}
use Rattle.rules.specs.Limits.{member_limit}
use Rattle.rules.specs.Refusals.{Refusal, wrong_kind, seventh_member, sum_too_large}
use Rattle.rules.specs.Values as S
use Rattle.rules.specs.Values.{eq_z, fits32, kind_of_field, values_of}
use Rattle.rules.specs.Changes.{Outcome, becomes, fails}
use Rattle.lists.specs.Table.{table_form}
use Rattle.field.specs.declared.Field.{Field}
use Rattle.field.specs.declared.Misfit.{Misfit}
use Rattle.field.specs.declared.Misfit.TheVariants.{WrongKind, SeventhMember, SumTooLarge}

-- ── a field ──
-- the numbers of the first two kinds
abbrev pub absent_kind : ℕ
absent_kind = kind_of_field S.absent

abbrev pub number_kind : ℕ
number_kind = kind_of_field (S.number (pos 0))

-- any other kind is a list: of the first count values, and at most of all that there are
unfoldable pub view_field : Field → S.Field
view_field f =
    cond (eqb f.kind absent_kind) S.absent
    (cond (eqb f.kind number_kind) (S.number (get_or f.values 0 (pos 0))) (S.list (take f.count f.values)))

-- the one form of what is seen: its kind, its count, 32 bits for each value that counts, and 0 for the rest
unfoldable pub field_form : Field → Bool
field_form f =
    eqb f.kind (kind_of_field (view_field f))
    && eqb f.count (length (values_of (view_field f)))
    && table_form member_limit fits32 (eq_z (pos 0)) f.count f.values

-- ── the answer of a change ──
-- why a change does not fit, as the rules refuse it
abbrev pub view_misfit : Misfit → Refusal
view_misfit WrongKind = wrong_kind
view_misfit SeventhMember = seventh_member
view_misfit SumTooLarge = sum_too_large

abbrev pub view_changed : Result Field Misfit → Outcome
view_changed (Ok g) = becomes (view_field g)
view_changed (Err m) = fails (view_misfit m)
