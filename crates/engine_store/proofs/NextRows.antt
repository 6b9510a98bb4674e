-- What a crash leaves while the next epoch begins, in terms of the rows that it begins with.
use Rattle.std.proofs.Common.{◌≡◌, ℕ, Bool, true, false, Result, Ok, Err, List, [], ◌∷◌, length, take, refl, sym, ◌∙◌, ap, subst, arith}
use Rattle.std.proofs.lemmas.List.{take_all}
use Rattle.teb_rules.specs.declared.names.Cell.{Cell}
use Rattle.teb_rules.specs.names.Rows.{row_of}
use Rattle.teb_rules.specs.Replay.{Values}
use Rattle.record_journal.specs.Format.{Record}
use Rattle.record_journal.specs.Journal.{after_records}
use Rattle.commit_laws.specs.Records.{records_of}
use Rattle.epoch_journal.specs.Layout.{Layout}
use Rattle.epoch_journal.specs.Telling.{TellsOn, IsBegun, table_of}
use Rattle.engine_core.specs.EngineModel.{EngineModel}
use Rattle.engine_store.specs.Telling.{TellsCommits}
use Rattle.engine_store.proofs.Starting.{starts_with_none}

any_start : (S T : Values) (list : List Record) (x : Cell) → IsBegun list → table_of S list x ≡ table_of T list x
any_start S T [] x begun = absurd begun
any_start S T (r ∷ rs) x begun = refl

begins_again : (l : Layout) (T U : Values) (all : List Record) (least : ℕ) (c : List ℕ) → least ≡ length all → ((x : Cell) → U x ≡ after_records all T x)
    → TellsOn l T all least c → TellsOn l U [] 0 c
begins_again l T U all least c whole rows t =
    let s = t.tells.stands in
    let every : take t.tells.k all ≡ all = take_all t.tells.k all (omega (arith, whole, t.tells.no_fewer)) in
    record {
      tells = record {
        k = 0;
        no_fewer = omega arith;
        no_more = omega arith;
        stands = record {
          list = s.list;
          has = s.has;
          table = λ x. any_start U T s.list x t.begun ∙ s.table x ∙ ap (λ (rs : List Record). after_records rs T x) every ∙ sym (rows x);
        };
      };
      begun = t.begun;
    }

pub next_rows : (l m : Layout) (before e : EngineModel) (least : ℕ) (c : List ℕ) → m ≡ l → least ≡ length (records_of before.store.setup before.events) → e.events ≡ []
    → ((x : Cell) → row_of e.store.rows x ≡ after_records (records_of before.store.setup before.events) (row_of before.store.rows) x)
    → TellsCommits l before.store before.events least c → TellsCommits m e.store e.events 0 c
next_rows l m before e least c same whole none rows t =
    subst (λ (k : Layout). TellsOn k (row_of e.store.rows) (records_of e.store.setup e.events) 0 c) (sym same)
    (subst (λ (rs : List Record). TellsOn l (row_of e.store.rows) rs 0 c) (sym (starts_with_none e none))
    (begins_again l (row_of before.store.rows) (row_of e.store.rows) (records_of before.store.setup before.events) least c whole rows t))

pub runs : {T E : Type 0} (b : Bool) (x : T) (e : E) (r : Result T E) → r ≡ Ok x → (b ≡ true → r ≡ Err e) → b ≡ false
runs true x e r is = λ fails. let no : r ≡ Err e = fails refl in absurd (cc)
runs false x e r is = λ _. refl
