-- The profiles of some of the types.
use Rattle.std.specs.Prelude.{ℕ, List, [], get_or, map}
use Rattle.teb_rules.specs.declared.names.Kind.{Kind}

-- of these types, in order
abbrev pub profiles_of : List (List (List ℕ)) → List Kind → List (List (List ℕ))
profiles_of profiles kinds = map (λ k. get_or profiles k.0 []) kinds
