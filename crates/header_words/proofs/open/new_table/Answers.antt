use Rattle.std.proofs.Common.{rules}
use Rattle.header_words.proofs.Opens.{opens}
use Rattle.header_words.proofs.open.new_table.Goals as goal

pub new-requires : goal.new-requires
new-requires g c = opens g.B.Kept.bound c.args.layout.now.lows.items c.args.layout.now.count c.args.words.now c.push_reserved.new.self.items c.args.book c.requires.free
    c.requires.bytes c.requires.few (search rules)
