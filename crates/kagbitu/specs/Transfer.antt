-- What a read or a write came to, by what it answered and how many bytes were lent.
use Rattle.std.specs.Prelude.{ℕ, min, ◌≤◌, ◌≡◌, Bool, true, false, cond, ◌||◌, eqb, ℤ, pos, negsuc, Result, Ok, Err, IfOk}
use Rattle.std.specs.IoError.{error_kind}
use Rattle.std.specs.declared.io.Error.{Error}
use Rattle.std.specs.declared.io.ErrorKind.{ErrorKind}
use Rattle.std.specs.declared.io.ErrorKind.TheVariants.{Interrupted, WouldBlock}
use Rattle.kagbitu.specs.declared.transfer.Transfer.{Transfer}
use Rattle.kagbitu.specs.declared.transfer.Transfer.TheVariants as o

-- a signal came before a byte moved; nothing can move without waiting
abbrev pub interrupted : ℕ
interrupted = 4

abbrev pub would_wait : ℕ
would_wait = 11

-- errors after which the same is asked again, by the system's numbers
abbrev pub passing : ℤ → Bool
passing (pos n) = eqb n interrupted || eqb n would_wait
passing (negsuc n) = false

-- and by their kinds
abbrev pub passing_kind : ErrorKind → Bool
passing_kind Interrupted = true
passing_kind WouldBlock = true
passing_kind _ = false

-- an error, passing or not
abbrev pub failed_by : Bool → Error → Transfer
failed_by passes e = cond passes o.Again (o.Failed e)

-- 0 bytes are the end, and any other number so many bytes; an error is a failure, passing or not
abbrev pub transfer_of : Result ℕ Error → ℕ → Transfer
transfer_of (Ok n) lent = cond (eqb n 0) o.End (o.Moved (min n lent))
transfer_of (Err e) lent = failed_by (passing_kind (error_kind e)) e

-- what a call that was lent so many bytes came to
pub record CameTo (lent : ℕ) (r : Transfer) : Type 0 where
  pub answer : Result ℕ Error
  pub moved : IfOk answer (λ n. n ≤ lent)
  pub told : r ≡ transfer_of answer lent

-- it failed
abbrev pub IsFailed : Transfer → Type 0
IsFailed r = (e : Error) × (r ≡ o.Failed e)
