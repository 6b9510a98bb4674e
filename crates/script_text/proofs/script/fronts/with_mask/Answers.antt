use Rattle.std.proofs.Common.{◌%◌, ◌^◌, length, ◌∙◌, ap}
use Rattle.script_text.specs.Words.{is_inside}
use Rattle.script_text.proofs.Loads.{line_mask, one_bit}
use Rattle.script_text.proofs.script.fronts.with_mask.Goals as goal

pub returns-clause-mask : goal.returns-clause-mask
returns-clause-mask c =
    let n = length c.args.line.now in
    let cut = one_bit n c.requires.short in (
      c.requires.short,
      ap (λ m. c.inside_of-inside.result % m) cut ∙ ap (λ m. m % 2 ^ n) c.inside_of-inside.ensures
          ∙ line_mask is_inside c.args.text.now c.args.line.now 32 c.requires.long c.requires.short c.requires.front,
    )
