-- Marks and lists by number, and how they grow.
use Rattle.std.proofs.Common.{◌≡◌, ℕ, ◌<◌, ◌==◌, true, false, if◌then◌else◌, List, [], ◌++◌, map, length, get_or, set, ap, sym, ◌∙◌, arith, inl, inr}
use Rattle.std.specs.Prelude.{Vec}
use Rattle.std.specs.declared.alloc.Global.{Global}
use Rattle.std.proofs.lemmas.Bool.{cases_eq}
use Rattle.std.proofs.lemmas.Bool.Decides.{nat_tests}
use Rattle.std.proofs.lemmas.List.{map-set, length-map, get_or-set_same, get_or-set_other, get_or-map}
use Rattle.audit_check.specs.Marks.{list_at}

pub list_set : (lists : List (Vec ℕ Global)) (i : ℕ) (v : Vec ℕ Global) (more : List ℕ) → i < length lists → v.items ≡ list_at lists i ++ more
    → (n : ℕ) → list_at (set lists i v) n ≡ (if i == n then list_at lists n ++ more else list_at lists n)
list_set lists i v more within is n =
    ap (λ (ls : List (List ℕ)). get_or ls n []) (map-set (λ (l : Vec ℕ Global). l.items) lists i v) ∙ elim (cases_eq n i) [
      | inl same ↦
          let here : (i == n) ≡ true = grind (arith, nat_tests) in
          rw (here, same) (get_or-set_same (map (λ (l : Vec ℕ Global). l.items) lists) i v.items [] (omega (arith, within, length-map lists (λ (l : Vec ℕ Global). l.items))) ∙ is)
      | inr apart ↦
          let other : (i == n) ≡ false = grind (arith, nat_tests) in
          rw other (get_or-set_other (map (λ (l : Vec ℕ Global). l.items) lists) i n v.items [] apart)
    ]

pub list_read : (lists : List (Vec ℕ Global)) (i : ℕ) (v : Vec ℕ Global) → i < length lists → v ≡ get_or lists i v → list_at lists i ≡ v.items
list_read lists i v within is = get_or-map (λ (l : Vec ℕ Global). l.items) lists i v [] within ∙ ap (λ (l : Vec ℕ Global). l.items) (sym is)
