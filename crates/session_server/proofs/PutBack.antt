-- A pass is removed from the end of a list and put back.
use Rattle.std.proofs.Common.{◌≡◌, ℕ, List, [], ◌∷◌, ◌++◌, Option, Some, map, sym, ◌∙◌, ap}
use Rattle.std.specs.Option.{option_to_list}
use Rattle.std.proofs.lemmas.List.{map-append}
use Rattle.teb_rules.specs.declared.names.Session.{Session}
use Rattle.hall_server.specs.declared.server.Server.{Ghosts}
use Rattle.session_server.specs.Passes.{IsPassOf, IsNew, number_of}
use Rattle.session_server.specs.declared.hall.HallOf.{HallOf}
use Rattle.session_server.specs.declared.pass.PassOf.{PassOf}

module _ {V : Type 0} {g : Ghosts V} where
  pub is_pass : (h : HallOf V g) (p : PassOf V g) → IsNew h p → IsPassOf h p
  is_pass h p n = (n.seat, n.base)

  -- if the last pass is replaced by a pass of the same session, the sessions are the same
  pub same_numbers : (all rest other : List (PassOf V g)) (last : Option (PassOf V g)) (old new : PassOf V g) → all ≡ rest ++ option_to_list last → last ≡ Some old → new.session ≡ old.session
      → map number_of other ≡ map number_of rest
      → map number_of (other ++ new ∷ []) ≡ map number_of all
  same_numbers all rest other last old new is some session same =
      let whole : all ≡ rest ++ old ∷ [] = is ∙ ap (λ (o : Option (PassOf V g)). rest ++ option_to_list o) some in
      map-append number_of other (new ∷ []) ∙ (ap (λ (m : List ℕ). m ++ new.session.0 ∷ []) same ∙ (ap (λ (s : Session). map number_of rest ++ s.0 ∷ []) session
      ∙ (sym (map-append number_of rest (old ∷ [])) ∙ sym (ap (map number_of) whole))))
