use Rattle.std.proofs.Common.{◌≡◌, ◌<◌, ◌∙◌, ◌++◌, ◌∷◌, [], Option, ℤ, FitsSigned, length, unwrap_or, pos, ap, arith, rules, w64, to_z, of_z}
use Rattle.std.proofs.lemmas.Int.{to_z-of_z}
use Rattle.teb_rules.proofs.lemmas.names.Padding.{held_next}
use Rattle.teb_rules.proofs.names.scan.ScanList.push.Goals as goal

number : (z : ℤ) (v : Option ℤ) → FitsSigned w64 z → z ≡ unwrap_or v (pos 0) → to_z w64 (of_z w64 z) ≡ unwrap_or v (pos 0)
number z v fits is = to_z-of_z w64 z fits ∙ is

pub invariant_of-self : goal.invariant_of-self
invariant_of-self c =
    let s = c.self.inside in
    let room : s.len < 16 = omega (arith, c.requires, ap length c.self.view_is, c.self.invariant.1) in
    let value = number c.unwrap_or.result c.args.v (search rules) c.unwrap_or.ensures in
    let next = held_next s.len s.present s.values c.args.v room c.self.invariant.2 c.self.invariant.3 _ _ c.is_some.ensures value in
    (omega arith, next.1, next.2, next.3)

pub returns : goal.returns
returns c =
    let s = c.self.inside in
    let room : s.len < 16 = omega (arith, c.requires, ap length c.self.view_is, c.self.invariant.1) in
    let value = number c.unwrap_or.result c.args.v (search rules) c.unwrap_or.ensures in
    let next = held_next s.len s.present s.values c.args.v room c.self.invariant.2 c.self.invariant.3 _ _ c.is_some.ensures value in
    next.0 ∙ ap (λ xs. xs ++ c.args.v ∷ []) c.self.view_is
