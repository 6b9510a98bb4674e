use Rattle.std.proofs.Common.{rules, ◌≡◌, ◌∙◌, true, sym, ap, List, ℕ, take, drop}
use Rattle.std.specs.Int.{w64, to_be_bytes}
use Rattle.epoch_journal.specs.Layout.{signature}
use Rattle.epoch_journal.proofs.Surveys.{front_in_parts}
use Rattle.epoch_journal.proofs.reading.check_front.Goals as goal

pub returns-clause-current : goal.returns-clause-current
returns-clause-current c =
    let yes : c.are_same.result ≡ true = search rules in
    let too : c.are_same-2.result ≡ true = search rules in
    let signed : take 4 (drop 1 c.args.front.now) ≡ signature = ap (λ (t : List ℕ). take 4 t) (sym c.split_at.ensures.back) ∙ sym c.split_at-2.ensures.front ∙ c.are_same.ensures.yes yes in
    let numbered : drop 4 (drop 1 c.args.front.now) ≡ to_be_bytes w64 c.args.capacity = ap (λ (t : List ℕ). drop 4 t) (sym c.split_at.ensures.back) ∙ sym c.split_at-2.ensures.back
    ∙ c.are_same-2.ensures.yes too ∙ c.to_be_bytes.ensures in
    (front_in_parts c.args.capacity (drop 1 c.args.front.now) signed numbered, sym c.of_selector.ensures)
