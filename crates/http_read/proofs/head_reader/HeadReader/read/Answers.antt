use Rattle.http_read.proofs.WindowLemmas.{long_line_says, too_large_says, end_says, end_within, looked_in, within_bytes}
use Rattle.http_read.proofs.head_reader.HeadReader.read.Goals as goal

pub returns-in-LongLine-clause-head : goal.returns-in-LongLine-clause-head
returns-in-LongLine-clause-head c =
    long_line_says c.args.self.now.limits c.look.new.self.limits c.args.bytes.now c.min.result c.in-LongLine.ensures.limits c.min.ensures c.in-LongLine.ensures.looks

pub returns-in-TooLarge-clause-head : goal.returns-in-TooLarge-clause-head
returns-in-TooLarge-clause-head c =
    too_large_says c.args.self.now.limits c.look.new.self.limits c.args.bytes.now c.min.result c.in-TooLarge.ensures.limits c.min.ensures c.in-TooLarge.ensures.looks

pub returns-in-Ends-clause-head : goal.returns-in-Ends-clause-head
returns-in-Ends-clause-head c =
    end_says c.args.self.now.limits c.look.new.self.limits c.args.bytes.now c.min.result c.in-Ends.end c.in-Ends.noted c.read_head.result
    c.in-Ends.ensures.limits c.min.ensures c.in-Ends.ensures.looks c.read_head.ensures

pub read_head-requires : goal.read_head-requires
read_head-requires c =
    end_within c.look.new.self.limits c.args.bytes.now c.min.result c.in-Ends.end c.in-Ends.noted c.in-Ends.ensures.looks

pub returns-in-LongLine-clause-looked : goal.returns-in-LongLine-clause-looked
returns-in-LongLine-clause-looked c =
    looked_in c.args.bytes.now c.min.result c.look.new.self c.in-LongLine.ensures.within c.in-LongLine.ensures.looked

pub returns-in-LongLine-clause-within : goal.returns-in-LongLine-clause-within
returns-in-LongLine-clause-within c = within_bytes c.args.bytes.now c.min.result c.look.new.self.looked c.in-LongLine.ensures.within

pub returns-in-TooLarge-clause-looked : goal.returns-in-TooLarge-clause-looked
returns-in-TooLarge-clause-looked c =
    looked_in c.args.bytes.now c.min.result c.look.new.self c.in-TooLarge.ensures.within c.in-TooLarge.ensures.looked

pub returns-in-TooLarge-clause-within : goal.returns-in-TooLarge-clause-within
returns-in-TooLarge-clause-within c = within_bytes c.args.bytes.now c.min.result c.look.new.self.looked c.in-TooLarge.ensures.within

pub returns-in-Unended-clause-looked : goal.returns-in-Unended-clause-looked
returns-in-Unended-clause-looked c =
    looked_in c.args.bytes.now c.min.result c.look.new.self c.in-Unended.ensures.within c.in-Unended.ensures.looked

pub returns-in-Unended-clause-within : goal.returns-in-Unended-clause-within
returns-in-Unended-clause-within c = within_bytes c.args.bytes.now c.min.result c.look.new.self.looked c.in-Unended.ensures.within

pub returns-in-Ends-clause-looked : goal.returns-in-Ends-clause-looked
returns-in-Ends-clause-looked c =
    looked_in c.args.bytes.now c.min.result c.look.new.self c.in-Ends.ensures.within c.in-Ends.ensures.looked

pub returns-in-Ends-clause-within : goal.returns-in-Ends-clause-within
returns-in-Ends-clause-within c = within_bytes c.args.bytes.now c.min.result c.look.new.self.looked c.in-Ends.ensures.within
