-- The sentences of a report, one after another.
use Rattle.std.proofs.Common.{◌≡◌, Bool, ℕ, List, [], ◌++◌, Result, Ok, Err, ap, ◌∙◌, IsTrue}
use Rattle.std.specs.Prelude.{OnOk, ◌↔◌}
use Rattle.teb_rules.specs.Setup.{NodeRow, Setup}
use Rattle.script_text.specs.Texts.{Words}
use Rattle.guarantees.specs.Shapes.{HidesUncommitted, keeps_time, orders_by_commits}
use Rattle.tree_guarantees.specs.Conditions.{IsCondition}
use Rattle.tree_report.specs.Guarantees.{AreGuarantees, always_text, end_line, shape_text, types_text}

pub told : {E : Type 0} (types : Words) (T : List NodeRow) (strict ordered alone : Bool) (old one two three new : List ℕ) (r : Result (Unit {0}) E) → IsCondition keeps_time T strict
    → IsCondition orders_by_commits T ordered
    → ((S : Setup) → S.tree ≡ T → (IsTrue alone ↔ HidesUncommitted S)) → old ≡ [] → one ≡ old ++ always_text → two ≡ one ++ shape_text strict ordered alone → three ≡ two ++ types_text types T
    → OnOk r (new ≡ three ++ end_line)
    → OnOk r (AreGuarantees types T new)
told types T strict ordered alone old one two three new (Err e) a b c blank first second third fourth = tt
told types T strict ordered alone old one two three new (Ok u) a b c blank first second third fourth =
    let first_is : one ≡ always_text = first ∙ ap (λ (l : List ℕ). l ++ always_text) blank in
    let second_is : two ≡ always_text ++ shape_text strict ordered alone = second ∙ ap (λ (l : List ℕ). l ++ shape_text strict ordered alone) first_is in
    let third_is : three ≡ (always_text ++ shape_text strict ordered alone) ++ types_text types T = third ∙ ap (λ (l : List ℕ). l ++ types_text types T) second_is in
    record { strict = strict; ordered = ordered; alone = alone; is_strict = a; is_ordered = b; is_alone = c; shown = fourth ∙ ap (λ (l : List ℕ). l ++ end_line) third_is }
