use Rattle.std.proofs.Common.{◌≡◌, List, ◌++◌, ◌∙◌, sym, ap, rules}
use Rattle.std.proofs.lemmas.List.{map-append, nil_from_length}
use Rattle.std.specs.Slice.Iter.{chunks_rest, chunks_size}
use Rattle.script_text.specs.declared.Line.{Line}
use Rattle.teb_rules.specs.Run.{history_after}
use Rattle.script_runner.specs.replay.Logs.{request_of, requests_of, log_of}
use Rattle.script_runner.proofs.lemmas.replay.Logged.{after, all_told, history_is, history_none, part_after, part_told}
use Rattle.script_runner.proofs.replay.lines.ask_lines.Goals as goal

pub returns-then-is_empty-clause-events : goal.returns-then-is_empty-clause-events
returns-then-is_empty-clause-events g c =
    let X = c.args.engine.now.store in
    let H = c.args.engine.now.events in
    let none = nil_from_length c.args.lines.now (search rules) in
    c.reserve_ahead.ensures.events ∙ sym (ap (λ (ls : List Line). history_after X H (requests_of ls)) none ∙ history_none X H)

pub loop-piece-init : goal.loop-piece-init
loop-piece-init g c =
    let e = c.reserve_ahead.ensures in
    let same = c.into_iter-piece-iterator.ensures.into_iter_gives in
    let all = ap (λ it. requests_of (chunks_rest it)) same ∙ ap requests_of c.chunks-piece-items.ensures.rest in
    record {
      size = ap chunks_size same ∙ c.chunks-piece-items.ensures.size;
      store = e.store;
      names = e.names;
      log = λ told t. record { answers = told; told = t; joined = λ j. told ++ log_of (e.store j) (e.events j) (all j) };
      events = λ j. after (e.store j) (e.events j) (all j);
    }

pub loop-piece-preserved : goal.loop-piece-preserved
loop-piece-preserved g c =
    let l = c.loop-piece in
    let i = l.invariant in
    let e = c.in_ok-ask_piece.ensures in
    let steps = c.in-Some.ensures.steps in
    let asked = requests_of c.in-Some.piece.now in
    let behind = requests_of (chunks_rest c.next.new.self) in
    let rest = requests_of (chunks_rest l.piece-iterator) in
    let parts : rest ≡ asked ++ behind = ap requests_of steps.1.0 ∙ map-append request_of c.in-Some.piece.now (chunks_rest c.next.new.self) in
    record {
      size = steps.0 ∙ i.size;
      store = e.store ∙ i.store;
      names = e.names ∙ i.names;
      log = λ told t. part_told asked behind rest parts l.engine.store c.ask_piece.new.engine.store l.engine.events c.ask_piece.new.engine.events e.store e.events
          (g.L.Log.tells l.log) (g.L.Log.tells c.ask_piece.new.log) l.engine.names c.args.engine.now.names _ i.names e.log (i.log told t);
      events = part_after asked behind rest parts l.engine.store c.ask_piece.new.engine.store l.engine.events c.ask_piece.new.engine.events e.store e.events ∙ i.events;
    }

pub returns-clause-log : goal.returns-clause-log
returns-clause-log g c = λ told t.
    let l = c.loop-piece in
    let none = ap requests_of (nil_from_length (chunks_rest l.piece-iterator) c.in-None.ensures.steps.1.0) in
    all_told (g.L.Log.tells l.log c.args.engine.now.names) l.engine.store l.engine.events (requests_of (chunks_rest l.piece-iterator)) _ none (l.invariant.log told t)

pub returns-clause-events : goal.returns-clause-events
returns-clause-events g c =
    let l = c.loop-piece in
    let none = ap requests_of (nil_from_length (chunks_rest l.piece-iterator) c.in-None.ensures.steps.1.0) in
    sym (ap (λ rs. after l.engine.store l.engine.events rs) none)
    ∙ l.invariant.events ∙ sym (history_is c.args.engine.now.store c.args.engine.now.events (requests_of c.args.lines.now))
