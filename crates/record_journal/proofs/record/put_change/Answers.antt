use Rattle.std.proofs.Common.{rules, ◌≡◌, ◌++◌, ◌∷◌, Option, ℤ, sym, ◌∙◌, ap, subst}
use Rattle.std.specs.Int.{w32, w64, to_be_bytes, cast_unsigned}
use Rattle.record_journal.specs.Format.{tag_of, number_of}
use Rattle.record_journal.proofs.Written.{pieces}
use Rattle.record_journal.proofs.record.put_change.Goals as goal

pub returns-in_ok-extend_from_slice-in-Some-clause-put : goal.returns-in_ok-extend_from_slice-in-Some-clause-put
returns-in_ok-extend_from_slice-in-Some-clause-put c =
    let cell = c.args.change.cell in
    let bits : c.cast_unsigned.result ≡ cast_unsigned w64 c.in-Some.value = search rules in
    subst
    (λ (v : Option ℤ). c.extend_from_slice-in-Some.new.self.items ≡ c.args.out.now.items ++ (cell.table.0 ∷ (to_be_bytes w32 cell.key ++ tag_of v ∷ to_be_bytes w64 (number_of v))))
    (sym c.in-Some.is)
    (pieces _ _ _ _ _ _ _ _ _
    c.in_ok-push.ensures.items
    (c.in_ok-extend_from_slice.ensures.items ∙ ap (λ l. c.push.new.self.items ++ l) c.to_be_bytes.ensures)
    c.in_ok-push-in-Some.ensures.items
    (c.in_ok-extend_from_slice-in-Some.ensures.items ∙ ap (λ l. c.push-in-Some.new.self.items ++ l) (c.to_be_bytes-in-Some.ensures ∙ ap (to_be_bytes w64) bits)))
