-- What the counts of a link show of the last turn of its connection.
use Rattle.std.proofs.Common.{◌≡◌, ℕ, Bool, true, false, not, sym, subst, ◌∙◌, arith}
use Rattle.mpm_base.specs.Count.{NeverFalls, Rises, RisesWhere, RisesExactlyWhere}
use Rattle.mpm_base.specs.Link.{LinkCounts}
use Rattle.mpm_base.specs.declared.conn.Ask.{Ask}
use Rattle.mpm_base.specs.declared.note.Note.{Note}
use Rattle.conn_state.specs.declared.turn.LastTurn.{LastTurn}
use Rattle.conn_state.specs.declared.turn.LastTurn.TheVariants as last_turn
use Rattle.conn_state.specs.declared.turn.ReadTurn.{ReadTurn}
use Rattle.conn_state.specs.declared.turn.ReadTurn.TheVariants as read
use Rattle.conn_state.specs.declared.turn.WriteTurn.{WriteTurn}
use Rattle.conn_state.specs.declared.turn.WriteTurn.TheVariants as write
use Rattle.conn_state.specs.Conn.{SeenConn}
use Rattle.conn_state.specs.Turns.{ReadsOn, ShutsOn, TakesNote, WritesOn, after_reading, after_writing, is_gone, is_more, is_read_failure}
use Rattle.conn_state.specs.Writing.{is_not_ready, is_write_failure}
use Rattle.worker_group.specs.Service.{CountsLast, IsMadeSince, NoneFalls}

-- ## Counts

-- a count that stays doesn't fall
stays : (old new : ℕ) → new ≡ old → NeverFalls old new
stays old new same = omega (arith, same)

-- nor does one that may have risen
rises-where : (test : Bool) (old new : ℕ) → RisesWhere test old new → NeverFalls old new
rises-where true old new rises = rises.0
rises-where false old new never = never

-- a count that didn't fall, and then rose, rose
rises-after : (old mid new : ℕ) → NeverFalls old mid → Rises mid new → Rises old new
rises-after old mid new first later = (omega (arith, first, later.0), λ below. grind (arith, first, later.0, later.1, below))

-- what was counted later was counted since before
counts-after : (last : LastTurn) (a b c : LinkCounts) → NoneFalls a b → CountsLast last b c → CountsLast last a c
counts-after last_turn.New a b c first later = tt
counts-after (last_turn.Asked ask) a b c first later = tt
counts-after last_turn.Interim a b c first later = tt
counts-after last_turn.Answered a b c first later = tt
counts-after last_turn.More a b c first later = rises-after a.late_reads b.late_reads c.late_reads first.late_reads later
counts-after last_turn.Gone a b c first later = rises-after a.ends b.ends c.ends first.ends later
counts-after last_turn.Done a b c first later = tt
counts-after last_turn.NotReady a b c first later = rises-after a.late_writes b.late_writes c.late_writes first.late_writes later
counts-after last_turn.LinkFailed a b c first later = rises-after a.faults b.faults c.faults first.faults later
counts-after last_turn.NoMemory a b c first later = tt

-- ## Over several turns

-- no count falls where none changes
pub none_falls-same : (a : LinkCounts) → NoneFalls a a
none_falls-same a = record { faults = omega (arith); late_reads = omega (arith); late_writes = omega (arith); ends = omega (arith) }

-- nor over two steps in which none does
pub none_falls-more : (a b c : LinkCounts) → NoneFalls a b → NoneFalls b c → NoneFalls a c
none_falls-more a b c first later = record {
  faults = omega (arith, first.faults, later.faults);
  late_reads = omega (arith, first.late_reads, later.late_reads);
  late_writes = omega (arith, first.late_writes, later.late_writes);
  ends = omega (arith, first.ends, later.ends);
}

-- the last turn of those that came later is the last since before
pub turned-more : (last : LastTurn) (a b c : LinkCounts) → NoneFalls a b → IsMadeSince last b c → IsMadeSince last a c
turned-more last a b c first later =
    record { none_falls = none_falls-more a b c first later.none_falls; counted = counts-after last a b c first later.counted }

-- ## Each turn

turned-write : (answer : WriteTurn) (a b : LinkCounts) → RisesWhere (is_write_failure answer) a.faults b.faults
    → RisesExactlyWhere (is_not_ready answer) a.late_writes b.late_writes → b.late_reads ≡ a.late_reads → b.ends ≡ a.ends
    → IsMadeSince (after_writing answer) a b
turned-write write.Done a b faults writes reads ends = record {
  none_falls = record {
    faults = faults;
    late_reads = stays a.late_reads b.late_reads reads;
    late_writes = stays a.late_writes b.late_writes writes;
    ends = stays a.ends b.ends ends;
  };
  counted = tt;
}
turned-write write.NotReady a b faults writes reads ends = record {
  none_falls = record {
    faults = faults;
    late_reads = stays a.late_reads b.late_reads reads;
    late_writes = writes.0;
    ends = stays a.ends b.ends ends;
  };
  counted = writes;
}
turned-write write.LinkFailed a b faults writes reads ends = record {
  none_falls = record {
    faults = faults.0;
    late_reads = stays a.late_reads b.late_reads reads;
    late_writes = stays a.late_writes b.late_writes writes;
    ends = stays a.ends b.ends ends;
  };
  counted = faults;
}

-- a turn of writing
pub turned-written : (c c' : SeenConn) (answer : WriteTurn) → WritesOn c c' answer → IsMadeSince c'.turn c.counts c'.counts
turned-written c c' answer writes =
    subst (λ (u : LastTurn). IsMadeSince u c.counts c'.counts) (sym writes.turn)
    (turned-write answer c.counts c'.counts writes.faults writes.late_writes writes.late_reads writes.ends)

turned-reading : (answer : ReadTurn) (a b : LinkCounts) → RisesWhere (is_read_failure answer) a.faults b.faults
    → RisesExactlyWhere (is_more answer) a.late_reads b.late_reads → RisesExactlyWhere (is_gone answer) a.ends b.ends → b.late_writes ≡ a.late_writes
    → IsMadeSince (after_reading answer) a b
turned-reading (read.Asked ask) a b faults reads ends writes = record {
  none_falls = record {
    faults = faults;
    late_reads = stays a.late_reads b.late_reads reads;
    late_writes = stays a.late_writes b.late_writes writes;
    ends = stays a.ends b.ends ends;
  };
  counted = tt;
}
turned-reading read.Interim a b faults reads ends writes = record {
  none_falls = record {
    faults = faults;
    late_reads = stays a.late_reads b.late_reads reads;
    late_writes = stays a.late_writes b.late_writes writes;
    ends = stays a.ends b.ends ends;
  };
  counted = tt;
}
turned-reading read.More a b faults reads ends writes = record {
  none_falls = record {
    faults = faults;
    late_reads = reads.0;
    late_writes = stays a.late_writes b.late_writes writes;
    ends = stays a.ends b.ends ends;
  };
  counted = reads;
}
turned-reading read.Gone a b faults reads ends writes = record {
  none_falls = record {
    faults = faults;
    late_reads = stays a.late_reads b.late_reads reads;
    late_writes = stays a.late_writes b.late_writes writes;
    ends = ends.0;
  };
  counted = ends;
}
turned-reading read.LinkFailed a b faults reads ends writes = record {
  none_falls = record {
    faults = faults.0;
    late_reads = stays a.late_reads b.late_reads reads;
    late_writes = stays a.late_writes b.late_writes writes;
    ends = stays a.ends b.ends ends;
  };
  counted = faults;
}
turned-reading read.NoMemory a b faults reads ends writes = record {
  none_falls = record {
    faults = faults;
    late_reads = stays a.late_reads b.late_reads reads;
    late_writes = stays a.late_writes b.late_writes writes;
    ends = stays a.ends b.ends ends;
  };
  counted = tt;
}

-- a turn of reading
turned-read : (c c' : SeenConn) (answer : ReadTurn) → ReadsOn c c' answer → IsMadeSince c'.turn c.counts c'.counts
turned-read c c' answer reads =
    subst (λ (u : LastTurn). IsMadeSince u c.counts c'.counts) (sym reads.turn)
    (turned-reading answer c.counts c'.counts reads.faults reads.late_reads reads.ends reads.late_writes)

-- a turn of reading behind one of writing
pub turned-on : (c c1 c2 : SeenConn) (written : WriteTurn) (answer : ReadTurn) → WritesOn c c1 written → ReadsOn c1 c2 answer → IsMadeSince c2.turn c.counts c2.counts
turned-on c c1 c2 written answer writes reads =
    turned-more c2.turn c.counts c1.counts c2.counts (turned-written c c1 written writes).none_falls (turned-read c1 c2 answer reads)

-- the half-close behind the turn that sent all
pub turned-shut : (c c1 c2 : SeenConn) (made : Bool) → WritesOn c c1 write.Done → ShutsOn c1 c2 made → IsMadeSince c2.turn c.counts c2.counts
turned-shut c c1 c2 made writes shuts =
    let counts = shuts.counts in
    let later : NoneFalls c1.counts c2.counts = record {
      faults = rises-where (not made) c1.counts.faults c2.counts.faults counts.faults;
      late_reads = stays c1.counts.late_reads c2.counts.late_reads counts.late_reads;
      late_writes = stays c1.counts.late_writes c2.counts.late_writes counts.late_writes;
      ends = stays c1.counts.ends c2.counts.ends counts.ends;
    } in
    turned-more c2.turn c.counts c1.counts c2.counts (turned-written c c1 write.Done writes).none_falls
    (subst (λ (u : LastTurn). IsMadeSince u c1.counts c2.counts) (sym (shuts.turn ∙ writes.turn)) (record { none_falls = later; counted = tt }))

-- an answer behind both
pub turned-answer : (c c1 c2 c3 : SeenConn) (written : WriteTurn) (answer : ReadTurn) → WritesOn c c1 written → ReadsOn c1 c2 answer
    → IsMadeSince c3.turn c2.counts c3.counts → IsMadeSince c3.turn c.counts c3.counts
turned-answer c c1 c2 c3 written answer writes reads answered =
    turned-more c3.turn c.counts c2.counts c3.counts (turned-on c c1 c2 written answer writes reads).none_falls answered

-- the response that became pending
pub turned-answered : (c c' : SeenConn) (note : Note) → TakesNote note c c' → IsMadeSince c'.turn c.counts c'.counts
turned-answered c c' note takes =
    subst (λ (x : SeenConn). IsMadeSince x.turn c.counts x.counts) (sym takes.new_is)
    (record { none_falls = none_falls-same c.counts; counted = tt })

-- one for which memory lacked
pub turned-unanswered : (c c' : SeenConn) → c' ≡ record c { turn = last_turn.NoMemory } → IsMadeSince c'.turn c.counts c'.counts
turned-unanswered c c' is =
    subst (λ (x : SeenConn). IsMadeSince x.turn c.counts x.counts) (sym is) (record { none_falls = none_falls-same c.counts; counted = tt })

-- and one that was refused
pub turned-refused : (c : SeenConn) (ask : Ask) → c.turn ≡ last_turn.Asked ask → IsMadeSince c.turn c.counts c.counts
turned-refused c ask asked =
    subst (λ (u : LastTurn). IsMadeSince u c.counts c.counts) (sym asked) (record { none_falls = none_falls-same c.counts; counted = tt })
