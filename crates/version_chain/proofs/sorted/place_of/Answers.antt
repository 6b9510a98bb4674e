use Rattle.std.proofs.Common.{◌≡◌, ℕ, ◌<◌, sym, ap, ◌∙◌, arith, rules, List, length, get_or, map, Option, Some, None, MatchOption}
use Rattle.std.specs.List.{AllWithin, HoldsAt}
use Rattle.std.proofs.lemmas.Iterator.{IsFirst-from_position, YieldsList-from_slice}
use Rattle.std.proofs.lemmas.List.{length-map}
use Rattle.teb_rules.specs.declared.names.Txn.{Txn}
use Rattle.version_chain.specs.declared.sorted.Stored.{Stored}
use Rattle.version_chain.specs.Lists.{Version}
use Rattle.version_chain.specs.Stored.{version}
use Rattle.version_chain.proofs.Places.{first_of_writer}
use Rattle.version_chain.proofs.Ranges.{version_at}
use Rattle.version_chain.proofs.sorted.place_of.Goals as goal

as_versions : (ms : List Stored) (t : Txn) (r : Option ℕ)
    → MatchOption r (AllWithin (λ (v : Stored). v.writer ≡ t → ⊥) ms 0 (length ms))
    (λ i. (i < length ms) × HoldsAt (λ (v : Stored). v.writer ≡ t) ms i × AllWithin (λ (v : Stored). v.writer ≡ t → ⊥) ms 0 i)
    → MatchOption r ((j : ℕ) (d : Version) → j < length (map version ms) → (get_or (map version ms) j d).0 ≡ t → ⊥)
    (λ i. (i < length (map version ms)) × ((d : Version) → (get_or (map version ms) i d).0 ≡ t) × ((j : ℕ) (d : Version) → j < i → (get_or (map version ms) j d).0 ≡ t → ⊥))
as_versions ms t r h = go r h
  where
    n : length (map version ms) ≡ length ms
    n = length-map ms version

    blank : Version → Stored
    blank d = record { cell = record { table = record { 0 = 0 }; key = 0 }; writer = d.0; value = d.1 }

    writer : (j : ℕ) (d : Version) → j < length ms → (get_or (map version ms) j d).0 ≡ (get_or ms j (blank d)).writer
    writer j d lt = ap (λ (v : Version). v.0) (version_at ms j (blank d) d lt)

    go : (r : Option ℕ)
        → MatchOption r (AllWithin (λ (v : Stored). v.writer ≡ t → ⊥) ms 0 (length ms))
        (λ i. (i < length ms) × HoldsAt (λ (v : Stored). v.writer ≡ t) ms i × AllWithin (λ (v : Stored). v.writer ≡ t → ⊥) ms 0 i)
        → MatchOption r ((j : ℕ) (d : Version) → j < length (map version ms) → (get_or (map version ms) j d).0 ≡ t → ⊥)
        (λ i. (i < length (map version ms)) × ((d : Version) → (get_or (map version ms) i d).0 ≡ t) × ((j : ℕ) (d : Version) → j < i → (get_or (map version ms) j d).0 ≡ t → ⊥))
    go None h = λ j d lt e. let low : j < length ms = omega (arith, lt, n) in h j (blank d) (omega arith) low (sym (writer j d low) ∙ e)
    go (Some i) h = (
      omega (arith, h.0, n),
      λ d. writer i d h.0 ∙ h.1 (blank d),
      λ j d lt e. let low : j < length ms = omega (arith, lt, h.0) in
          h.2 j (blank d) (omega arith) lt (sym (writer j d low) ∙ e),
    )

pub returns : goal.returns
returns c =
    let ms = c.args.chain.now in
    let found = IsFirst-from_position _ _ _ (λ v. v.writer ≡ c.args.t) (λ v. v.writer ≡ c.args.t → ⊥) c.position.ensures.ran (YieldsList-from_slice ms cc) (λ x q called. search rules)
    (λ x q called. search rules) in
    first_of_writer (map version ms) c.args.t c.position.result (as_versions ms c.args.t c.position.result found)
