-- A link in memory some of whose calls fail: what contracts see of it, and what each call leaves of it.
use Rattle.std.specs.Prelude.{◌≡◌, ℕ, Bool, true, false, ◌||◌, List, if◌then◌else◌, ⊤}
use Rattle.mpm_base.specs.Count.{next_count}
use Rattle.mpm_base.specs.Link.{LinkTold, LinkCounts, fresh_link, after_read, after_shut, after_write}
use Rattle.stand_ins.specs.Calls.{next_is_listed}
use Rattle.stand_ins.specs.PlainLink.{no_link_counts, read_answer, count_read, count_shut, count_write}
use Rattle.mpm_base.specs.declared.link.Got.{Got}
use Rattle.mpm_base.specs.declared.link.Got.TheVariants as got
use Rattle.mpm_base.specs.declared.link.Sent.{Sent}
use Rattle.mpm_base.specs.declared.link.Sent.TheVariants as sent

-- what the link tells and counts, whether the client sends no more behind the bytes that come, whether the bytes and the
-- room for what is written come little by little, whether its script drops it at some moment, how many reads and writes were
-- called, whatever they answered, and which of them are to fail
pub record SeenScriptLink : Type 0 where
  pub told : LinkTold
  pub counts : LinkCounts
  pub ends : Bool
  pub paced : Bool
  pub drops : Bool
  pub reads : ℕ
  pub writes : ℕ
  pub fail_reads : List ℕ
  pub fail_writes : List ℕ

-- the link as the front hands it out: its number, what its client sent, whether the client sends no more, and the
-- numbers of the reads and writes that are to fail
abbrev pub new_script_link : ℕ → List ℕ → Bool → List ℕ → List ℕ → SeenScriptLink
new_script_link number coming ended bad_reads bad_writes =
    record {
      told = fresh_link number coming;
      counts = no_link_counts;
      ends = ended;
      paced = false;
      drops = false;
      reads = 0;
      writes = 0;
      fail_reads = bad_reads;
      fail_writes = bad_writes;
    }

-- the link whose bytes and room come little by little: its number, all that its client sends, the numbers of the reads and
-- writes that are to fail once their lines have happened, and whether its script drops it
abbrev pub new_paced_link : ℕ → List ℕ → List ℕ → List ℕ → Bool → SeenScriptLink
new_paced_link number coming bad_reads bad_writes dropped =
    record (new_script_link number coming false bad_reads bad_writes) { paced = true; drops = dropped }

-- the next read may fail: it is listed, or the script drops the link
abbrev pub read_may_fail : SeenScriptLink → Bool
read_may_fail link = link.drops || next_is_listed link.fail_reads link.reads

-- what a read into so much room answers where all has come: Failed where it is to fail, and else what a link without
-- failures does
abbrev pub script_read_answer : SeenScriptLink → ℕ → Got
script_read_answer link room =
    if next_is_listed link.fail_reads link.reads then got.Failed else read_answer link.told.coming link.ends room

-- the link after a read that answered this
abbrev pub script_link_after_read : Got → SeenScriptLink → SeenScriptLink
script_link_after_read answer link =
    record link {
      told = after_read answer link.told;
      counts = count_read answer link.counts;
      reads = next_count link.reads;
    }

-- a write fails where it is to fail; else it takes the whole piece where there is room for all, or fails for want of memory
abbrev pub TakesWholeUnless : Bool → Sent → ℕ → Type 0
TakesWholeUnless true answer size = answer ≡ sent.Failed
TakesWholeUnless false (sent.Put n) size = n ≡ size
TakesWholeUnless false sent.NotReady size = ⊥
TakesWholeUnless false sent.Failed size = ⊤

-- the link after a write of these bytes that answered this
abbrev pub script_link_after_write : Sent → List ℕ → SeenScriptLink → SeenScriptLink
script_link_after_write answer bytes link =
    record link {
      told = after_write answer bytes link.told;
      counts = count_write answer link.counts;
      writes = next_count link.writes;
    }

-- the link after a watch of it failed
abbrev pub script_link_after_failed_watch : SeenScriptLink → SeenScriptLink
script_link_after_failed_watch link =
    record link { counts = record link.counts { faults = next_count link.counts.faults } }

-- the link after a half-close that answered this
abbrev pub script_link_after_shut : Bool → SeenScriptLink → SeenScriptLink
script_link_after_shut answer link =
    record link { told = after_shut answer link.told; counts = count_shut answer link.counts }
