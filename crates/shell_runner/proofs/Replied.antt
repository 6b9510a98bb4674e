-- What is unchanged in a store that was asked, and in one whose next epoch has begun.
use Rattle.std.proofs.Common.{◌≡◌, ℕ, List, Ok, length, refl, sym, ap, ◌∙◌, subst}
use Rattle.teb_rules.specs.declared.names.Session.{Session}
use Rattle.teb_rules.specs.declared.names.Request.{Request}
use Rattle.teb_rules.specs.declared.names.naming.NameBook.{NameBook}
use Rattle.teb_rules.specs.Setup.{Setup, Store}
use Rattle.store_setup.specs.SetupView.{SetupView}
use Rattle.store_setup.specs.Sound.{IsNamed}
use Rattle.store_setup.specs.Stores.{names_of, store_of_view}
use Rattle.shell_lines.specs.declared.reply.StoreReply.{StoreReply}
use Rattle.shell_lines.specs.declared.reply.StoreReply.TheVariants.{Reply, Later, Full, Unsure}
use Rattle.shell_lines.specs.Sessions.{noted}
use Rattle.shell_lines.specs.declared.waits.Waits.{Waits}
use Rattle.shell_runner.specs.States.{Stored, HasNodeNames, IsNext, IsOfTree, IsReplied}
use Rattle.teb_rules.specs.Epochs.{IsDrained}
use Rattle.shell_runner.specs.Answers.{IsNextEpoch, IsTold, State, next_number}

pub record SameTree (s t : Stored) : Type 0 where
  pub store : t.store ≡ s.store
  pub names : t.names ≡ s.names

pub same_tree : (s : Stored) (session : Session) (request : Request) (a : StoreReply) (t : Stored) → IsReplied s session request a t → SameTree s t
same_tree s session request (Reply r) t h = record { store = h.1.store; names = h.1.names }
same_tree s session request Later t h = absurd h
same_tree s session request Full t h = record { store = ap (λ (x : Stored). x.store) h.0; names = ap (λ (x : Stored). x.names) h.0 }
same_tree s session request Unsure t h = record { store = h.1.store; names = h.1.names }

of_tree_along : (tree : List ℕ) (s t : Stored) → SameTree s t → IsOfTree tree s → IsOfTree tree t
of_tree_along tree s t same of = record {
  view = of.view;
  read = of.read;
  setup = ap (λ (X : Store). X.setup) same.store ∙ of.setup;
  tables = ap (λ (X : Store). X.tables) same.store ∙ of.tables;
  names = same.names ∙ of.names;
  nodes = of.nodes;
}

-- a store that has replied is still of the same tree
pub replied_of_tree : (tree : List ℕ) (s : Stored) (session : Session) (request : Request) (a : StoreReply) (t : Stored) → IsOfTree tree s → IsReplied s session request a t → IsOfTree tree t
replied_of_tree tree s session request a t of h = of_tree_along tree s t (same_tree s session request a t h) of

pub node_names : (tree : List ℕ) (s : Stored) → IsOfTree tree s → HasNodeNames s
node_names tree s of = ap (λ (S : Setup). length S.tree) of.setup ∙ of.nodes ∙ sym (ap (λ (n : NameBook). length n.nodes) of.names)

pub told : (s t : State) (session : Session) (request : Request) (a : StoreReply) → IsReplied s.stored session request a t.stored → t.epoch ≡ s.epoch → t.format ≡ s.format
    → t.waits ≡ noted s.waits session a → IsTold s session request a t
told s t session request (Reply r) h e f w = (h, e, f, w)
told s t session request Later h e f w = absurd h
told s t session request Full h e f w = (h, e, f, w)
told s t session request Unsure h e f w = (h, e, f, w)

-- the next epoch has begun with the same tree
module _ (tree : List ℕ) (s t : Stored) (m : SetupView) (of : IsOfTree tree s) (same : of.view ≡ m) (n : IsNext m s t) where
  pub next_epoch : (e f : ℕ) (format : ℕ) (waits : Waits) → IsDrained s.events → f ≡ next_number e → IsNextEpoch (record { stored = s; epoch = e; format = format; waits = waits })
      (record { stored = t; epoch = f; format = format; waits = waits })
  next_epoch e f format waits drained next = record {
    setup = n.setup ∙ ap (λ (v : SetupView). (store_of_view v).setup) (sym same) ∙ sym of.setup;
    tables = n.tables ∙ ap (λ (v : SetupView). (store_of_view v).tables) (sym same) ∙ sym of.tables;
    names = n.names ∙ ap names_of (sym same) ∙ sym of.names;
    rows = n.rows;
    drained = drained;
    events = n.events;
    commits = n.commits;
    epoch = next;
    format = refl;
    waits = refl;
  }

  pub next_of_tree : IsOfTree tree t
  next_of_tree = record {
    view = m;
    read = of.read ∙ ap Ok same;
    setup = n.setup;
    tables = n.tables;
    names = n.names;
    nodes = subst IsNamed same of.nodes;
  }
