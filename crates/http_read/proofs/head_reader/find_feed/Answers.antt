use Rattle.http_read.proofs.LineFeedLemmas.{feed_at}
use Rattle.http_read.proofs.head_reader.find_feed.Goals as goal

pub returns : goal.returns
returns c = feed_at c.args.bytes.now c.memchr.result c.memchr.ensures
