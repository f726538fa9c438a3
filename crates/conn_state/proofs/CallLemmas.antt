-- The calls of a link so far, and one more.
use Rattle.std.proofs.Common.{◌≡◌, ◌⊎◌, inl, inr, ℕ, ◌+◌, ◌-◌, Bool, true, false, List, [], ◌∷◌, ◌++◌, length, min, Option, Some, None, option_map, refl, sym, ap, subst, ◌∙◌, arith, append_assoc, length-append}
use Rattle.std.proofs.lemmas.Bool.{false≢true}
use Rattle.std.proofs.lemmas.List.{append-nil}
use Rattle.mpm_base.specs.Link.{LinkCalls, with_read, with_write}
use Rattle.mpm_base.specs.declared.link.Got.{Got}
use Rattle.mpm_base.specs.declared.link.Sent.{Sent}
use Rattle.http_read.specs.declared.request.Limits.{Limits}
use Rattle.conn_state.specs.declared.stage.Stage.{Stage}
use Rattle.conn_state.specs.declared.stage.Stage.TheVariants as stage
use Rattle.conn_state.specs.Sizes.{read_piece, write_piece, most_dropped}
use Rattle.conn_state.specs.Rest.{StandsAs, is_in_head}
use Rattle.conn_state.specs.Reader.{SeenReader, StandsFor}
use Rattle.conn_state.specs.Calls.{taken_by, OffersAll, with_writes, WritesAll, given_by, with_reads, room_in_head, ReadsPieces, ReadsAll, DropsPieces, DropsAll}
use Rattle.conn_state.specs.CallsInside.{WritesSoFar, ReadsSoFar, DropsSoFar, room_in}

-- ## Calls told one behind the other

-- no write
writes-none : (calls : Option LinkCalls) → calls ≡ option_map (with_writes []) calls
writes-none None = refl
writes-none (Some c) = ap (λ ws. Some (record c { writes = ws })) (sym (append-nil c.writes))

-- a write is a list of one
write-is : (offered : ℕ) (answer : Sent) (calls : Option LinkCalls)
    → option_map (with_write offered answer) calls ≡ option_map (with_writes ((offered, answer) ∷ [])) calls
write-is offered answer None = refl
write-is offered answer (Some c) = refl

-- writes in two steps
writes-twice : (a b : List (ℕ × Sent)) (calls : Option LinkCalls)
    → option_map (with_writes b) (option_map (with_writes a) calls) ≡ option_map (with_writes (a ++ b)) calls
writes-twice a b None = refl
writes-twice a b (Some c) = ap (λ ws. Some (record c { writes = ws })) (append_assoc c.writes a b)

-- no read
reads-none : (calls : Option LinkCalls) → calls ≡ option_map (with_reads []) calls
reads-none None = refl
reads-none (Some c) = ap (λ rs. Some (record c { reads = rs })) (sym (append-nil c.reads))

-- a read is a list of one
read-is : (room : ℕ) (answer : Got) (calls : Option LinkCalls)
    → option_map (with_read room answer) calls ≡ option_map (with_reads ((room, answer) ∷ [])) calls
read-is room answer None = refl
read-is room answer (Some c) = refl

-- a read into so much room is told
pub read-told : (calls calls' : Option LinkCalls) (size room : ℕ) (answer : Got) → calls' ≡ option_map (with_read size answer) calls → size ≡ room
    → calls' ≡ option_map (with_reads ((room, answer) ∷ [])) calls
read-told calls calls' size room answer told is = told ∙ ap (λ n. option_map (with_read n answer) calls) is ∙ read-is room answer calls

-- reads in two steps
reads-twice : (a b : List (ℕ × Got)) (calls : Option LinkCalls)
    → option_map (with_reads b) (option_map (with_reads a) calls) ≡ option_map (with_reads (a ++ b)) calls
reads-twice a b None = refl
reads-twice a b (Some c) = ap (λ rs. Some (record c { reads = rs })) (append_assoc c.reads a b)

-- ## Writes

-- before the first one
pub writes-so_far : (calls : Option LinkCalls) (head body : ℕ) → WritesSoFar calls calls head body head body
writes-so_far calls head body = record { writes = []; calls_is = writes-none calls; goes_on = λ more offers. offers }

-- behind the last one
pub writes-done : (calls calls' : Option LinkCalls) (head body head' body' : ℕ) → WritesSoFar calls calls' head body head' body' → WritesAll calls calls' head body
writes-done calls calls' head body head' body' so_far = record {
  writes = so_far.writes;
  calls_is = so_far.calls_is;
  offers = subst (OffersAll head body) (append-nil so_far.writes) (so_far.goes_on [] tt);
}

module _ (calls calls1 calls2 : Option LinkCalls) (head body head1 body1 offered : ℕ) (answer : Sent)
    (so_far : WritesSoFar calls calls1 head body head1 body1) (next : calls2 ≡ option_map (with_write offered answer) calls1)
    (all : offered ≡ head1 + min write_piece body1) where
  -- all that are told
  write-joined : calls2 ≡ option_map (with_writes (so_far.writes ++ (offered, answer) ∷ [])) calls
  write-joined =
      next ∙ write-is offered answer calls1
      ∙ ap (λ o. option_map (with_writes ((offered, answer) ∷ [])) o) so_far.calls_is
      ∙ writes-twice so_far.writes ((offered, answer) ∷ []) calls

  -- those that follow it
  write-goes_on : (more : List (ℕ × Sent)) → OffersAll (head1 - taken_by answer) (body1 - (taken_by answer - head1)) more
      → OffersAll head body ((so_far.writes ++ (offered, answer) ∷ []) ++ more)
  write-goes_on more offers =
      subst (OffersAll head body) (sym (append_assoc so_far.writes ((offered, answer) ∷ []) more))
      (so_far.goes_on ((offered, answer) ∷ more) (all, offers))

  -- a further one
  pub writes-more : (head2 body2 : ℕ) → head2 ≡ head1 - taken_by answer → body2 ≡ body1 - (taken_by answer - head1)
      → WritesSoFar calls calls2 head body head2 body2
  writes-more head2 body2 is_head is_body = record {
    writes = so_far.writes ++ (offered, answer) ∷ [];
    calls_is = write-joined;
    goes_on = λ more offers. write-goes_on more
        (subst (λ h. OffersAll h (body1 - (taken_by answer - head1)) more) is_head (subst (λ b. OffersAll head2 b more) is_body offers));
  }

  -- the last one
  pub writes-last : WritesAll calls calls2 head body
  writes-last = record {
    writes = so_far.writes ++ (offered, answer) ∷ [];
    calls_is = write-joined;
    offers = subst (OffersAll head body) (append-nil (so_far.writes ++ (offered, answer) ∷ [])) (write-goes_on [] tt);
  }

-- ## Reads

-- before the first one
pub reads-so_far : (calls : Option LinkCalls) (kept kept' : ℕ) → kept' ≡ kept → ReadsSoFar calls calls kept kept'
reads-so_far calls kept kept' same = record { reads = []; calls_is = reads-none calls; goes_on = λ more pieces. subst (λ n. ReadsPieces n more) same pieces }

-- behind the last one
pub reads-done : (calls calls' : Option LinkCalls) (kept kept' : ℕ) → ReadsSoFar calls calls' kept kept' → ReadsAll calls calls' kept
reads-done calls calls' kept kept' so_far = record {
  reads = so_far.reads;
  calls_is = so_far.calls_is;
  pieces = subst (ReadsPieces kept) (append-nil so_far.reads) (so_far.goes_on [] tt);
}

module _ (calls calls1 calls2 : Option LinkCalls) (kept kept1 room : ℕ) (answer : Got) (so_far : ReadsSoFar calls calls1 kept kept1)
    (next : calls2 ≡ option_map (with_reads ((room, answer) ∷ [])) calls1) (has : (room ≡ read_piece) ⊎ (room ≡ room_in_head kept1)) where
  -- all that are told
  read-joined : calls2 ≡ option_map (with_reads (so_far.reads ++ (room, answer) ∷ [])) calls
  read-joined =
      next ∙ ap (λ o. option_map (with_reads ((room, answer) ∷ [])) o) so_far.calls_is ∙ reads-twice so_far.reads ((room, answer) ∷ []) calls

  -- those that follow it
  read-goes_on : (more : List (ℕ × Got)) → ReadsPieces (kept1 + given_by answer) more → ReadsPieces kept ((so_far.reads ++ (room, answer) ∷ []) ++ more)
  read-goes_on more pieces =
      subst (ReadsPieces kept) (sym (append_assoc so_far.reads ((room, answer) ∷ []) more)) (so_far.goes_on ((room, answer) ∷ more) (has, pieces))

  -- a further one
  pub reads-more : (kept2 : ℕ) → kept2 ≡ kept1 + given_by answer → ReadsSoFar calls calls2 kept kept2
  reads-more kept2 is = record {
    reads = so_far.reads ++ (room, answer) ∷ [];
    calls_is = read-joined;
    goes_on = λ more pieces. read-goes_on more (subst (λ n. ReadsPieces n more) is pieces);
  }

  -- the last one
  pub reads-end : ReadsAll calls calls2 kept
  reads-end = record {
    reads = so_far.reads ++ (room, answer) ∷ [];
    calls_is = read-joined;
    pieces = subst (ReadsPieces kept) (append-nil (so_far.reads ++ (room, answer) ∷ [])) (read-goes_on [] tt);
  }

-- of a head that isn't whole all is kept
all-kept : (limits : Limits) (unread : List ℕ) (s : Stage) (rest : List ℕ) → is_in_head s ≡ true → StandsAs limits unread s rest → rest ≡ unread
all-kept limits unread (stage.Head reader) rest is stands = stands.rest_is
all-kept limits unread (stage.Body request reader) rest is stands = absurd (false≢true is)
all-kept limits unread (stage.Whole request) rest is stands = absurd (false≢true is)
all-kept limits unread (stage.Refused code expected) rest is stands = absurd (false≢true is)

-- for how many bytes the link is asked
room-by : (limits : Limits) (unread : List ℕ) (s : Stage) (kept : ℕ) → (is_in_head s ≡ true → length unread ≡ kept)
    → (room_in unread s ≡ read_piece) ⊎ (room_in unread s ≡ room_in_head kept)
room-by limits unread (stage.Head reader) kept is = inr (ap room_in_head (is refl))
room-by limits unread (stage.Body request reader) kept is = inl refl
room-by limits unread (stage.Whole request) kept is = inl refl
room-by limits unread (stage.Refused code expected) kept is = inl refl

-- the same where so many bytes came in the turn
pub has-room : (old new : SeenReader) (rest got : List ℕ) → (is_in_head new.stage ≡ true → is_in_head old.stage ≡ true) → StandsFor old rest
    → StandsFor new (rest ++ got)
    → (room_in new.unread new.stage ≡ read_piece) ⊎ (room_in new.unread new.stage ≡ room_in_head (length old.unread + length got))
has-room old new rest got behind before now =
    room-by new.limits new.unread new.stage (length old.unread + length got) (λ is.
    let whole : rest ++ got ≡ new.unread = all-kept new.limits new.unread new.stage (rest ++ got) is now in
    let first : rest ≡ old.unread = all-kept old.limits old.unread old.stage rest (behind is) before in
    omega (arith, ap length whole, ap length first, length-append rest got))

-- ## Reads of what is dropped

-- before the first one
pub drops-so_far : (calls : Option LinkCalls) (dropped : ℕ) → DropsSoFar calls calls dropped dropped
drops-so_far calls dropped = record { reads = []; calls_is = reads-none calls; goes_on = λ more pieces. pieces }

-- behind the last one
pub drops-done : (calls calls' : Option LinkCalls) (dropped dropped' : ℕ) → DropsSoFar calls calls' dropped dropped' → DropsAll calls calls' dropped
drops-done calls calls' dropped dropped' so_far = record {
  reads = so_far.reads;
  calls_is = so_far.calls_is;
  pieces = subst (DropsPieces dropped) (append-nil so_far.reads) (so_far.goes_on [] tt);
}

module _ (calls calls1 calls2 : Option LinkCalls) (dropped dropped1 : ℕ) (answer : Got) (so_far : DropsSoFar calls calls1 dropped dropped1)
    (next : calls2 ≡ option_map (with_reads ((min read_piece (most_dropped - dropped1), answer) ∷ [])) calls1) where
  -- for how many bytes there is room
  abbrev dropping-room : ℕ
  dropping-room = min read_piece (most_dropped - dropped1)

  -- all that are told
  drop-joined : calls2 ≡ option_map (with_reads (so_far.reads ++ (dropping-room, answer) ∷ [])) calls
  drop-joined =
      next ∙ ap (λ o. option_map (with_reads ((dropping-room, answer) ∷ [])) o) so_far.calls_is
      ∙ reads-twice so_far.reads ((dropping-room, answer) ∷ []) calls

  -- those that follow it
  drop-goes_on : (more : List (ℕ × Got)) → DropsPieces (dropped1 + given_by answer) more
      → DropsPieces dropped ((so_far.reads ++ (dropping-room, answer) ∷ []) ++ more)
  drop-goes_on more pieces =
      subst (DropsPieces dropped) (sym (append_assoc so_far.reads ((dropping-room, answer) ∷ []) more))
      (so_far.goes_on ((dropping-room, answer) ∷ more) (refl, pieces))

  -- a further one
  pub drops-more : (dropped2 : ℕ) → dropped2 ≡ dropped1 + given_by answer → DropsSoFar calls calls2 dropped dropped2
  drops-more dropped2 is = record {
    reads = so_far.reads ++ (dropping-room, answer) ∷ [];
    calls_is = drop-joined;
    goes_on = λ more pieces. drop-goes_on more (subst (λ n. DropsPieces n more) is pieces);
  }

  -- the last one
  pub drops-end : DropsAll calls calls2 dropped
  drops-end = record {
    reads = so_far.reads ++ (dropping-room, answer) ∷ [];
    calls_is = drop-joined;
    pieces = subst (DropsPieces dropped) (append-nil (so_far.reads ++ (dropping-room, answer) ∷ [])) (drop-goes_on [] tt);
  }
