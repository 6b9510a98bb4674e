-- What a text is, from the result of reading it as a TOML document.
use Rattle.std.proofs.Common.{◌≡◌, ℕ, List, Bool, true, false, if◌then◌else◌, Some, None, Result, Err, IsUtf8, refl}
use Rattle.std.specs.Str.{is_utf8}
use Rattle.std.proofs.lemmas.Str.{IsUtf8-from_is_utf8, is_utf8-from_IsUtf8}
use Rattle.toml.specs.Data.{Members}
use Rattle.toml.specs.Parse.{parse_document}
use Rattle.tree_toml.specs.Reading.{Answers}
use Rattle.tree_toml.specs.SetupText.{setup_in, document_of, document_in}
use Rattle.store_setup.specs.SetupView.{setup_view}
use Rattle.store_setup.specs.declared.Setup.{Setup}
use Rattle.tree_toml.specs.declared.fault.TreeTextError.{TreeTextError}
use Rattle.tree_toml.specs.declared.fault.TreeTextError.TheVariants.{NotToml}

pub table_is : (text : List ℕ) (ms : Members) (r : Result Setup TreeTextError) → IsUtf8 text → parse_document text ≡ Some ms → Answers setup_view r (setup_in ms)
    → Answers setup_view r (document_of text)
unfolding document_of
table_is text ms r utf8 parsed read = rw (is_utf8-from_IsUtf8 text utf8, parsed) read

refused_by : (text : List ℕ) (b : Bool) → is_utf8 text ≡ b → (IsUtf8 text → parse_document text ≡ None) → (if b then document_in (parse_document text) else Err NotToml) ≡ Err NotToml
refused_by text true is none = rw (none (IsUtf8-from_is_utf8 text is))
refused_by text false is none = refl

pub refused : (text : List ℕ) → (IsUtf8 text → parse_document text ≡ None) → document_of text ≡ Err NotToml
unfolding document_of
refused text none = refused_by text (is_utf8 text) refl none
