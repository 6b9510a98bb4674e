use Rattle.std.proofs.Common.{◌∙◌, ap}
use Rattle.sorted_multimap.proofs.SpreadEntries.{kept_spread, kept_entries}
use Rattle.sorted_multimap.proofs.multimap.Multimap.reserve.Goals as goal

pub invariant_of-self-in_err-make_room : goal.invariant_of-self-in_err-make_room
invariant_of-self-in_err-make_room g c = kept_spread g.K.Ord.cmp g.K.Key.spread_of _ _ _ (c.make_buckets.ensures.spread _ c.self.invariant) c.make_room.ensures.kept

pub returns-in_err-make_room-clause-entries : goal.returns-in_err-make_room-clause-entries
returns-in_err-make_room-clause-entries g c = kept_entries g.K.Ord.cmp _ _ c.make_room.ensures.kept ∙ c.make_buckets.ensures.entries ∙ ap (λ s. s.entries) c.self.view_is

pub returns-clause-entries : goal.returns-clause-entries
returns-clause-entries g c = kept_entries g.K.Ord.cmp _ _ c.make_room.ensures.kept ∙ c.make_buckets.ensures.entries ∙ ap (λ s. s.entries) c.self.view_is
