-- What an input asks for.
use Rattle.std.specs.Prelude.{List}
use Rattle.script_text.specs.declared.Line.{Line}
use Rattle.store_setup.specs.SetupView.{SetupView}

-- a setup, and the lines to be run over its store
pub record Task : Type 0 where
  pub setup : SetupView
  pub lines : List Line
