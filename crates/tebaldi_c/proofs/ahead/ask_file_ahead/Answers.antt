use Rattle.std.proofs.Common.{◌≡◌, ◌||◌, sym, ◌∙◌}
use Rattle.std.proofs.lemmas.Bool.{both_ways}
use Rattle.tebaldi_c.proofs.ahead.ask_file_ahead.Goals as goal

pub number_of-requires : goal.number_of-requires
number_of-requires c = record {
  running = λ is.
      let same = c.ask_ahead.ensures.file in
      both_ways _ ((λ i. same.failed i || same.stopped i) ∙ sym c.is_stopped.ensures ∙ c.if-is_stopped.false) is;
}
