-- Calls as the rules see them, and lists of calls.
use Rattle.std.specs.Prelude.{ℕ, List}
use Rattle.rules.specs.Calls as C
use Rattle.arguments.specs.places.View.{pairs}
use Rattle.lists.specs.Table.{counted}
use Rattle.calls.specs.declared.Call.{Call}
use Rattle.calls.specs.declared.Call.TheVariants.{Load, Map, Begin, Read, Change, Commit, Abandon, Advance, Take, Apply, Delete, Cut, Sweep, Store, Report}
use Rattle.calls.specs.declared.Calls.{Calls}

abbrev pub view_call : Call → C.Call
view_call (Load d f k v) = C.Load d f k v
view_call (Map k n d1 f1 d2 f2 d3 f3 d4 f4) = C.Map k n (pairs d1 f1 d2 f2 d3 f3 d4 f4)
view_call Begin = C.Begin
view_call (Read s k) = C.Read s k
view_call (Change s d f k v) = C.Change s d f k v
view_call (Commit s) = C.Commit s
view_call (Abandon s) = C.Abandon s
view_call (Advance n) = C.Advance n
view_call (Take w) = C.Take w
view_call (Apply w f) = C.Apply w f
view_call (Delete w) = C.Delete w
view_call (Cut w) = C.Cut w
view_call Sweep = C.Sweep
view_call (Store n) = C.Store n
view_call (Report s) = C.Report s

-- the calls of a list
abbrev pub list_limit : ℕ
list_limit = 128

unfoldable pub view_calls : Calls → List Call
view_calls t = counted (λ (c : Call). c) t.count t.items
