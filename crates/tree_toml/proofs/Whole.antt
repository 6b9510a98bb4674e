-- A setup that was read is whole.
use Rattle.std.proofs.Common.{◌≡◌, ℕ, zero, suc, ◌<◌, ◌≤◌, Bool, true, false, if◌then◌else◌, List, [], ◌∷◌, length, get_or, codes, ℤ, Option, Some, None, Result, Ok, Err, refl, arith}
use Rattle.std.specs.List.{IsDistinct}
use Rattle.std.specs.Result.{IfOk}
use Rattle.std.proofs.lemmas.List.Elements.{All-nil}
use Rattle.teb_rules.specs.names.Names.{is_name}
use Rattle.teb_rules.specs.declared.names.Cell.{Cell}
use Rattle.teb_rules.specs.Setup.{NodeRow, profile}
use Rattle.teb_rules.specs.Tree.{row, no_row, below, climb, way}
use Rattle.teb_rules.specs.Accepted.{Fault, IsSound, tree_fault, homes}
use Rattle.store_setup.specs.tree.Grown.{Grown}
use Rattle.toml.specs.Data.{Members}
use Rattle.toml.specs.Parse.{parse_document}
use Rattle.std.specs.Str.{is_utf8}
use Rattle.tree_toml.specs.Reading.{◌>>=◌, required, at, Answers}
use Rattle.tree_toml.specs.Fields.{at_top, integer_at, within, all_known}
use Rattle.tree_toml.specs.Tables.{format_of, tables_of}
use Rattle.tree_toml.specs.Types.{types_of}
use Rattle.tree_toml.specs.Nodes.{nodes_of}
use Rattle.tree_toml.specs.Rows.{rows_of}
use Rattle.store_setup.specs.SetupView.{SetupView, setup_view}
use Rattle.tree_toml.specs.SetupText.{grown, shape_text, lists_in, setup_in, setup_of_text, document_of, document_in, plain, plain_row, is_blank}
use Rattle.store_setup.specs.Sound.{IsWhole, IsNamed, HasNames, rules_of}
use Rattle.tree_toml.specs.Limits.{IsOfText}
use Rattle.store_setup.specs.declared.Setup.{Setup as SetupRead}
use Rattle.tree_toml.specs.declared.fault.ListName.TheVariants as list
use Rattle.tree_toml.specs.declared.fault.Key.TheVariants as key
use Rattle.tree_toml.specs.declared.fault.TreeTextError.{TreeTextError}
use Rattle.tree_toml.specs.declared.fault.TreeTextError.TheVariants.{NotToml}
use Rattle.tree_toml.proofs.Bound.{bind_ok, at_ok, ok_is}
use Rattle.tree_toml.proofs.NameFacts.{tables_are_names, types_are_names, nodes_are_names}
use Rattle.tree_toml.proofs.NodeFacts.{nodes_ok, within_ok}
use Rattle.tree_toml.proofs.RowFacts.{rows_ok}
use Rattle.tree_toml.proofs.TypeFacts.{tables_ok, types_ok, profile_filled, profiles_within}

plain_sound : IsSound (rules_of plain)
unfolding tree_fault homes below way climb
plain_sound = record { some = omega arith; parts = parts; accepted = refl; profiles = record { filled = filled } }
  where
    parts : (n : ℕ) → n < 1 → (row (plain_row ∷ []) n).part < (row (plain_row ∷ []) n).parts
    parts zero h = omega arith
    parts (suc n) h = absurd (omega arith)

    filled : (k i : ℕ) → k < 1 → i < length (profile (rules_of plain) k) → 0 < length (get_or (profile (rules_of plain) k) i [])
    filled zero zero h j = omega arith
    filled zero (suc i) h j = absurd (omega arith)
    filled (suc k) i h j = absurd (omega arith)

-- the properties of a setup that was read
record IsRead (m : SetupView) : Type 0 where
  whole : IsWhole m
  named : IsNamed m
  names : HasNames m
  limits : IsOfText m

plain_names : HasNames plain
unfolding IsDistinct is_name
plain_names = record { tables = refl; types = refl; nodes = refl; tables_differ = (tt, tt) }

plain_read : IsRead plain
plain_read = record {
  whole = record {
    sound = plain_sound;
    profiles = refl;
    types = refl;
    few_nodes = omega arith;
    few_tables = omega arith;
    ranked = omega arith;
    cells = All-nil (λ (r : Cell × ℤ). r.0.table.0 < 1);
  };
  named = refl;
  names = plain_names;
  limits = record { few_types = omega arith; few_nodes = omega arith; few_rows = omega arith; ascending = refl; format = (omega arith, omega arith) };
}

grown_by : (rows : List NodeRow) (types : ℕ) (tree : Grown) (o : Option (ℕ × Fault))
    → elim o as (λ _. Result Grown TreeTextError) [ None ↦ Ok (record { rows = rows; types = types }) | Some w ↦ Err (shape_text w.0 w.1) ] ≡ Ok tree → (o ≡ None)
    × (record { rows = rows; types = types } ≡ tree)
grown_by rows types tree None e = (refl, ok_is _ _ tree refl e)
grown_by rows types tree (Some w) e = absurd (cc)

lists_read : (format : ℕ) (ms : Members) (m : SetupView) → (1 ≤ format) × (format ≤ 3) → lists_in format ms ≡ Ok m → IsRead m
unfolding lists_in
lists_read format ms m known e =
    let tables = bind_ok (tables_of ms) _ m e in
    let types = bind_ok (types_of tables.0 ms) _ m tables.2 in
    let nodes = bind_ok (nodes_of format types.0.names ms) _ m types.2 in
    let rows = bind_ok (rows_of tables.0 ms) _ m nodes.2 in
    let tree = bind_ok (grown nodes.0.rows (length types.0.names)) _ m rows.2 in
    let few = tables_ok ms tables.0 tables.1 in
    let typed = types_ok tables.0 ms types.0 few.0 types.1 in
    let own = nodes_ok format types.0.names ms nodes.0 nodes.1 in
    let starts = rows_ok tables.0 ms rows.0 rows.1 in
    let grew = grown_by nodes.0.rows (length types.0.names) tree.0 (tree_fault nodes.0.rows (length types.0.names)) tree.1 in
    rw (← ok_is _ _ m refl tree.2, ← grew.1) (record {
      whole = record {
        sound = record {
          some = own.some;
          parts = λ n h. (own.rows n no_row h).parts.2;
          accepted = grew.0;
          profiles = record { filled = λ k i h g. profile_filled (length tables.0) types.0.profiles k i typed.profiles (omega (arith, h, typed.same)) g };
        };
        profiles = typed.same;
        types = refl;
        few_nodes = own.few;
        few_tables = few.1;
        ranked = profiles_within (length tables.0) types.0.profiles typed.profiles;
        cells = starts.cells;
      };
      named = own.names;
      names = record {
        tables = (tables_are_names ms tables.0 tables.1).are;
        types = (types_are_names tables.0 ms types.0 types.1).are;
        nodes = (nodes_are_names format types.0.names ms nodes.0 nodes.1).are;
        tables_differ = (tables_are_names ms tables.0 tables.1).differ;
      };
      limits = record { few_types = typed.few; few_nodes = omega (arith, own.names, own.few); few_rows = starts.few; ascending = starts.ascending; format = known };
    })

known_by : (b : Bool) (ms : Members) (w : TreeTextError) (m : SetupView) → (if b then at (at_top key.Format) (format_of ms) >>= (λ format. lists_in format ms) else Err w) ≡ Ok m → IsRead m
known_by true ms w m e =
    let format = bind_ok (at (at_top key.Format) (format_of ms)) _ m e in
    let read = bind_ok (integer_at (codes "format") ms >>= required) (within 1 3) format.0 (at_ok _ _ format.0 format.1) in
    lists_read format.0 ms m (within_ok 1 3 read.0 format.0 read.2) format.2
known_by false ms w m e = absurd (cc)

setup_read : (ms : Members) (m : SetupView) → setup_in ms ≡ Ok m → IsRead m
unfolding setup_in
setup_read ms m e = known_by (all_known list.Top 1 ms) ms _ m e

document_read : (o : Option Members) (b : Bool) (m : SetupView) → (if b then document_in o else Err NotToml) ≡ Ok m → IsRead m
document_read None true m e = absurd (cc)
document_read (Some ms) true m e = setup_read ms m e
document_read o false m e = absurd (cc)

text_read : (b : Bool) (text : List ℕ) (m : SetupView) → (if b then Ok plain else document_of text) ≡ Ok m → IsRead m
unfolding document_of
text_read true text m e = rw (← ok_is _ plain m refl e) plain_read
text_read false text m e = document_read (parse_document text) (is_utf8 text) m e

-- what a text is does not depend on what it is read into
module _ (text : List ℕ) where
  read_from : (r : Result SetupRead TreeTextError) → Answers setup_view r (setup_of_text text) → IfOk r (λ s. IsRead (setup_view s))
  unfolding setup_of_text
  read_from (Ok s) read = text_read (is_blank text) text (setup_view s) read
  read_from (Err e) read = tt

  pub whole_from : (r : Result SetupRead TreeTextError) → Answers setup_view r (setup_of_text text) → IfOk r (λ s. IsWhole (setup_view s))
  whole_from (Ok s) read = (read_from (Ok s) read).whole
  whole_from (Err e) read = tt

  pub named_from : (r : Result SetupRead TreeTextError) → Answers setup_view r (setup_of_text text) → IfOk r (λ s. IsNamed (setup_view s))
  named_from (Ok s) read = (read_from (Ok s) read).named
  named_from (Err e) read = tt

  pub names_from : (r : Result SetupRead TreeTextError) → Answers setup_view r (setup_of_text text) → IfOk r (λ s. HasNames (setup_view s))
  names_from (Ok s) read = (read_from (Ok s) read).names
  names_from (Err e) read = tt

  pub limits_from : (r : Result SetupRead TreeTextError) → Answers setup_view r (setup_of_text text) → IfOk r (λ s. IsOfText (setup_view s))
  limits_from (Ok s) read = (read_from (Ok s) read).limits
  limits_from (Err e) read = tt

pub blank_is : (text : List ℕ) (r : Result SetupRead TreeTextError) → is_blank text ≡ true → Answers setup_view r (Ok plain) → Answers setup_view r (setup_of_text text)
unfolding setup_of_text
blank_is text r blank read = rw blank read

pub document_is : (text : List ℕ) (r : Result SetupRead TreeTextError) → is_blank text ≡ false → Answers setup_view r (document_of text) → Answers setup_view r (setup_of_text text)
unfolding setup_of_text
document_is text r blank read = rw blank read
