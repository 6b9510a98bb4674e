use Rattle.std.proofs.Common.{◌≡◌, ℕ, ◌<◌, ◌+◌, ◌-◌, ◌++◌, ◌∷◌, [], ◌∙◌, Bool, true, false, cond, eqb, eq-eqb, List, length, refl, ap, rules, arith, insert}
use Rattle.arena_multimap.specs.Arenas.{list_at, segment_at}
use Rattle.arena_multimap.proofs.Segments.{read_is, brought}
use Rattle.arena_multimap.proofs.arena.Arena.insert.Goals as goal

once : {X : Type 0} (b : Bool) (x y z : X) → cond b x (cond b y z) ≡ cond b x z
once true x y z = refl
once false x y z = refl

pub returns-clause-values : goal.returns-clause-values
returns-clause-values g c j =
    let i = c.args.i in
    let a = c.push.new.self in
    let ss = a.segments.items in
    let old = list_at c.args.self.now i in
    let lt : i < length ss = omega (arith, c.push.ensures.lists) in
    let is : c.index-segment.result.now ≡ segment_at ss i = read_is ss i c.index-segment.result.now lt c.index-segment.ensures in
    let was : list_at a i ≡ old ++ c.args.value ∷ [] = c.push.ensures.values i ∙ ap (λ (b : Bool). cond b (old ++ c.args.value ∷ []) old) (eq-eqb i i refl) in
    let same : length c.copy_within.new.self.items ≡ length a.values.items = search rules in
    brought ss a.values.items a.debt i c.index-segment.result.now c.push.ensures.sound is c.copy_within.new.self.items c.args.at (c.start.result + c.args.at) (c.end-last.result - 1) c.args.value old
    was c.requires.at
    (ap (λ (p : ℕ). p + c.args.at) c.start.ensures) (ap (λ (q : ℕ). q - 1) c.end-last.ensures) same
    c.copy_within.ensures.by_index.0 c.copy_within.ensures.by_index.1 c.copy_within.ensures.by_index.2 j
    ∙ ap (λ (l : List _). cond (eqb j i) (insert old c.args.at c.args.value) l) (c.push.ensures.values j)
    ∙ once (eqb j i) (insert old c.args.at c.args.value) (old ++ c.args.value ∷ []) (list_at c.args.self.now j)

pub returns-clause-room : goal.returns-clause-room
returns-clause-room g c n room =
    let r = c.push.ensures.room n room in
    record { segments = r.segments; values = omega (arith, r.values, c.copy_within.ensures.len, c.copy_within.ensures.capacity); short = omega (arith, r.short, c.copy_within.ensures.len) }
