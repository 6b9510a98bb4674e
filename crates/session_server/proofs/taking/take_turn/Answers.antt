use Rattle.session_server.proofs.Finishing.{word_lasts}
use Rattle.session_server.proofs.Turning.{adds, takes, sees, told_is}
use Rattle.session_server.proofs.Naming.{names_begun}
use Rattle.session_server.proofs.taking.take_turn.Goals as goal

pub leave-requires-clause-adds : goal.leave-requires-clause-adds
leave-requires-clause-adds g c =
    let x = c.enter-hosted.result in
    let y = c.ask-answer.new.self in
    adds c.args.session.0 c.args.seat.now.seat.me.0 c.enter-hosted.new.seat.seat.me.0 c.publish_since.new.seat.seat.me.0 x y record {
      owner = c.requires.owner;
      follows = c.enter-hosted.ensures.follows;
      enters = c.enter-hosted.ensures.enters;
      grows = c.ask-answer.ensures.grows;
      store = c.ask-answer.ensures.same.0;
      names = c.ask-answer.ensures.same.1;
      view = c.publish_since.ensures.view;
      tells = c.publish_since.ensures.known;
      lasts = λ u. word_lasts (g.S.Server.store y.server).setup (g.S.Server.events x.server) (g.S.Server.events y.server) u c.history-2.ensures.lawful c.ask-answer.ensures.before
          c.ask-answer.ensures.length;
    }

pub returns-clause-turn : goal.returns-clause-turn
returns-clause-turn g c =
    let x = c.enter-hosted.result in
    let y = c.ask-answer.new.self in
    takes c.args.session.0 c.args.seat.now.seat.me.0 c.enter-hosted.new.seat.seat.me.0 c.publish_since.new.seat.seat.me.0 x y c.leave.new.seat.seat.me.0 record {
      owner = c.requires.owner;
      follows = c.enter-hosted.ensures.follows;
      enters = c.enter-hosted.ensures.enters;
      grows = c.ask-answer.ensures.grows;
      store = c.ask-answer.ensures.same.0;
      names = c.ask-answer.ensures.same.1;
      view = c.publish_since.ensures.view;
      tells = c.publish_since.ensures.known;
      lasts = λ u. word_lasts (g.S.Server.store y.server).setup (g.S.Server.events x.server) (g.S.Server.events y.server) u c.history-2.ensures.lawful c.ask-answer.ensures.before
          c.ask-answer.ensures.length;
    } c.leave.ensures.view

pub returns-clause-sees : goal.returns-clause-sees
returns-clause-sees g c = sees c.args.seat.now.seat.me.0 c.enter-hosted.result c.ask-answer.new.self c.publish_since.new.seat.seat.me.0 c.leave.new.seat.seat.me.0 _ c.enter-hosted.ensures.follows.goes
    c.leave.ensures.view c.ask-answer.ensures.entries

pub returns-clause-waits : goal.returns-clause-waits
returns-clause-waits g c r is =
    let x = c.enter-hosted.result in
    names_begun (g.S.Server.store x.server) (g.S.Server.events x.server) c.args.session c.args.request r c.history.ensures.lawful x.few (told_is c.ask-answer.result r _ is c.ask-answer.ensures.answer)
