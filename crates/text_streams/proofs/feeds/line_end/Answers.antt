use Rattle.text_streams.proofs.FirstFeed.{first_is_position}
use Rattle.text_streams.proofs.feeds.line_end.Goals as goal

pub returns : goal.returns
returns c = first_is_position _ _ c.memchr.ensures
