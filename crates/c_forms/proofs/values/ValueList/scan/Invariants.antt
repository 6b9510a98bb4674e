use Rattle.std.proofs.Common.{◌≡◌, ◌≤◌, length, take}
use Rattle.c_forms.proofs.values.ValueList.scan.Given as goal

abbrev pub invariant-loop-i : goal.invariant-loop-i
invariant-loop-i l = (l.list ≡ take l.i l.self) × (l.i-end ≡ length l.self) × (l.i-end ≤ 16) × (l.i ≤ l.i-end)
