-- Several writes to a link are one.
use Rattle.std.proofs.Common.{◌≡◌, ℕ, List, [], ◌++◌, Option, Some, None, option_map, refl, sym, ap, ◌∙◌, arith, append_assoc}
use Rattle.std.proofs.lemmas.List.{append-nil}
use Rattle.mpm_base.specs.Link.{LinkTold, LinkCounts}
use Rattle.conn_state.specs.Writing.{with_sent}
use Rattle.conn_state.specs.WritingInside.{HasSent}

-- bytes sent in two steps were sent
sent-twice : (a b : List ℕ) (told : Option LinkTold) → option_map (with_sent b) (option_map (with_sent a) told) ≡ option_map (with_sent (a ++ b)) told
sent-twice a b None = refl
sent-twice a b (Some t) = ap (λ xs. Some (record t { sent = xs })) (append_assoc t.sent a b)

-- no byte is sent
sent-none : (told : Option LinkTold) → told ≡ option_map (with_sent []) told
sent-none None = refl
sent-none (Some t) = ap (λ xs. Some (record t { sent = xs })) (sym (append-nil t.sent))

-- before the first write
pub has_sent-none : (told : Option LinkTold) (counts : LinkCounts) (bytes : List ℕ) → HasSent told told counts counts bytes bytes
has_sent-none told counts bytes = record {
  sent = [];
  front = refl;
  told_is = sent-none told;
  faults = omega arith;
  late_reads = refl;
  late_writes = refl;
  ends = refl;
}

module _ (told told1 told2 : Option LinkTold) (counts counts1 counts2 : LinkCounts) (bytes bytes1 bytes2 : List ℕ) where
  -- two sendings are one
  sent-joined : (a b : List ℕ) → told1 ≡ option_map (with_sent a) told → told2 ≡ option_map (with_sent b) told1 → told2 ≡ option_map (with_sent (a ++ b)) told
  sent-joined a b first second = second ∙ ap (λ o. option_map (with_sent b) o) first ∙ sent-twice a b told

  -- what both sent is a front
  front-joined : (a b : List ℕ) → bytes ≡ a ++ bytes1 → bytes1 ≡ b ++ bytes2 → bytes ≡ (a ++ b) ++ bytes2
  front-joined a b first second = first ∙ ap (λ xs. a ++ xs) second ∙ sym (append_assoc a b bytes2)

  -- a further write
  pub has_sent-more : HasSent told told1 counts counts1 bytes bytes1 → HasSent told1 told2 counts1 counts2 bytes1 bytes2
      → HasSent told told2 counts counts2 bytes bytes2
  has_sent-more first later = record {
    sent = first.sent ++ later.sent;
    front = front-joined first.sent later.sent first.front later.front;
    told_is = sent-joined first.sent later.sent first.told_is later.told_is;
    faults = omega (arith, first.faults, later.faults);
    late_reads = later.late_reads ∙ first.late_reads;
    late_writes = later.late_writes ∙ first.late_writes;
    ends = later.ends ∙ first.ends;
  }
