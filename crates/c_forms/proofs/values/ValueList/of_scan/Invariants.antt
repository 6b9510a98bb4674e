use Rattle.std.proofs.Common.{◌≡◌, ◌≤◌, length, take}
use Rattle.c_forms.proofs.values.ValueList.of_scan.Given as goal

abbrev pub invariant-loop-i : goal.invariant-loop-i
invariant-loop-i l = (l.list ≡ take l.i l.values) × (l.i-end ≡ length l.values) × (l.i-end ≤ 16) × (l.i ≤ l.i-end)
