-- How a link gives way to others: since the last wait of its front it gives so many bytes at most by reads, and takes so many at most by
-- writes.
use Rattle.std.specs.Prelude.{◌≡◌, ℕ, ◌==◌, ◌+◌, ◌≤◌, if◌then◌else◌}
use Rattle.mpm_base.specs.declared.link.Got.{Got}
use Rattle.mpm_base.specs.declared.link.Sent.{Sent}
use Rattle.mpm_base.specs.declared.link.Sent.TheVariants as sent
use Rattle.socket_links.specs.Answers.{count_of_got}

-- how many bytes a link gave by reads and took by writes since the wait of its front that has this number
pub record Passed : Type 0 where
  pub wait : ℕ
  pub given : ℕ
  pub taken : ℕ

-- how many bytes the write took
abbrev pub count_of_sent : Sent → ℕ
count_of_sent (sent.Put n) = n
count_of_sent sent.NotReady = 0
count_of_sent sent.Failed = 0

-- how many bytes the link gave since the wait of that number, the last one
abbrev pub given_since : ℕ → Passed → ℕ
given_since wait p = if p.wait == wait then p.given else 0

-- how many bytes it took since then
abbrev pub taken_since : ℕ → Passed → ℕ
taken_since wait p = if p.wait == wait then p.taken else 0

-- a read that answered this was counted since the last wait, and no more bytes were given since then than a link gives between two waits
pub record GivesWay (old new : Passed) (answer : Got) : Type 0 where
  pub given : new.given ≡ given_since new.wait old + count_of_got answer
  pub few : new.given ≤ 16384
  pub taken : new.taken ≡ taken_since new.wait old

-- a write that answered this was counted since the last wait, and no more bytes were taken since then than a link takes between two waits
pub record TakesWay (old new : Passed) (answer : Sent) : Type 0 where
  pub taken : new.taken ≡ taken_since new.wait old + count_of_sent answer
  pub few : new.taken ≤ 1048576
  pub given : new.given ≡ given_since new.wait old
