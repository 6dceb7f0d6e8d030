-- The journal's transaction is ended, and then the words are done.
use Rattle.kb_top.proofs.ReadyLaws.{serves_on, serves_stopped, left_bare, left_rooted}
use Rattle.kb_top.proofs.serve.serve.Goals as goal

pub serve_words-requires-clause-rooted : goal.serve_words-requires-clause-rooted
serve_words-requires-clause-rooted g c =
    left_rooted c.args.host.now.roots (g.W.World.state c.args.world.now) (g.W.World.state c.recover.new.world) c.requires.rooted c.in-Ok.ensures.lasts

pub serve_words-requires-clause-bare : goal.serve_words-requires-clause-bare
serve_words-requires-clause-bare g c = left_bare c.args.host.now.roots (g.W.World.state c.args.world.now) (g.W.World.state c.recover.new.world) c.in-Ok.found c.in-Ok.ensures

pub returns-in-Ok : goal.returns-in-Ok
returns-in-Ok g c =
    serves_on c.args.host.now c.args.words.now (g.W.World.state c.args.world.now) (g.W.World.state c.recover.new.world) (g.W.World.state c.serve_words.new.world) c.in-Ok.found c.args.report.now
    c.serve_words.new.report c.serve_words.result c.requires.rooted (g.met.W.World.formed c.recover.new.world) c.in-Ok.ensures c.serve_words.ensures.does c.serve_words.ensures.unread

pub returns-in-Err : goal.returns-in-Err
returns-in-Err g c =
    serves_stopped c.args.host.now c.args.words.now (g.W.World.state c.args.world.now) (g.W.World.state c.recover.new.world) c.args.report.now c.in-Err.stop c.in-Err.ensures
