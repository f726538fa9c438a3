-- Several reads of a link whose bytes are dropped are one.
use Rattle.std.proofs.Common.{◌≡◌, ℕ, ◌+◌, List, ◌++◌, take, length, Option, option_map, sym, ap, subst, ◌∙◌, arith, length-append}
use Rattle.std.proofs.lemmas.List.{length-take-le}
use Rattle.mpm_base.specs.Count.{RisesExactlyWhere}
use Rattle.mpm_base.specs.Link.{LinkTold, LinkCounts, Reads, with_received}
use Rattle.mpm_base.specs.declared.link.Got.TheVariants as got
use Rattle.conn_state.specs.declared.turn.LingerTurn.{LingerTurn}
use Rattle.conn_state.specs.Turns.{is_drained, is_linger_late, is_linger_failure}
use Rattle.conn_state.specs.LingerInside.{HasDropped, DropsOn}
use Rattle.conn_state.proofs.LinkLemmas.{rises-after, told-joined, gives-joined, gives-taken}

-- a read gave so many bytes, which were dropped
pub has_dropped-piece : (told told' : Option LinkTold) (counts counts' : LinkCounts) (dropped dropped' : ℕ) (buffer : List ℕ) (count : ℕ)
    → Reads (record { told = told; counts = counts }) (record { told = told'; counts = counts' }) (got.Got count) buffer → dropped' ≡ dropped + count → HasDropped told told' counts counts' dropped dropped'
has_dropped-piece told told' counts counts' dropped dropped' buffer count reads is =
    let size : length (take count buffer) ≡ count = length-take-le count buffer reads.fits.0 in
    record {
      got = take count buffer;
      dropped_is = is ∙ ap (λ n. dropped + n) (sym size);
      told_is = reads.told_is ∙ ap (λ n. option_map (with_received n) told) (sym size);
      gives = gives-taken told count buffer reads.fits.0 reads.gives;
      faults = reads.faults;
      late_reads = reads.late_reads;
      late_writes = reads.late_writes;
      ends = reads.ends;
    }

module _ (told told1 told2 : Option LinkTold) (counts counts1 counts2 : LinkCounts) (dropped dropped1 dropped2 : ℕ) where
  -- what was dropped in two steps
  dropped-joined : (a b : List ℕ) → dropped1 ≡ dropped + length a → dropped2 ≡ dropped1 + length b → dropped2 ≡ dropped + length (a ++ b)
  dropped-joined a b first later = omega (arith, first, later, length-append a b)

  -- a further read
  pub has_dropped-more : HasDropped told told1 counts counts1 dropped dropped1 → HasDropped told1 told2 counts1 counts2 dropped1 dropped2
      → HasDropped told told2 counts counts2 dropped dropped2
  has_dropped-more first later = record {
    got = first.got ++ later.got;
    dropped_is = dropped-joined first.got later.got first.dropped_is later.dropped_is;
    told_is = told-joined told told1 told2 first.got later.got first.told_is later.told_is;
    gives = gives-joined told told1 told2 first.got later.got first.told_is first.gives later.gives;
    faults = omega (arith, first.faults, later.faults);
    late_reads = later.late_reads ∙ first.late_reads;
    late_writes = later.late_writes ∙ first.late_writes;
    ends = later.ends ∙ first.ends;
  }

  -- the last read
  pub drops_on-last : (answer : LingerTurn) → HasDropped told told1 counts counts1 dropped dropped1
      → DropsOn told1 told2 counts1 counts2 dropped1 dropped2 answer → DropsOn told told2 counts counts2 dropped dropped2 answer
  drops_on-last answer first later = record {
    got = first.got ++ later.got;
    dropped_is = dropped-joined first.got later.got first.dropped_is later.dropped_is;
    told_is = told-joined told told1 told2 first.got later.got first.told_is later.told_is;
    gives = gives-joined told told1 told2 first.got later.got first.told_is first.gives later.gives;
    none_comes = later.none_comes;
    most = later.most;
    sated = later.sated;
    faults = rises-after (is_linger_failure answer) counts.faults counts1.faults counts2.faults first.faults later.faults;
    late_reads = subst (λ n. RisesExactlyWhere (is_linger_late answer) n counts2.late_reads) first.late_reads later.late_reads;
    late_writes = later.late_writes ∙ first.late_writes;
    ends = subst (λ n. RisesExactlyWhere (is_drained answer) n counts2.ends) first.ends later.ends;
  }
