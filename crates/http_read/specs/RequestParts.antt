-- What the head of a request says.
use Rattle.std.specs.Prelude.{ℕ, Bool, false, List, Option, None}
use Rattle.http_read.specs.declared.request.BodyKind.{BodyKind}

-- the conditions of a request (RFC 9110, section 13.1): the words of all fields If-Match and of all fields If-None-Match, where one stands; the value of If-Unmodified-Since, of If-Modified-Since and of If-Range, where exactly one stands; and whether an If-Range stands
pub record Conditions : Type 0 where
  pub if_match : Option (List (List ℕ))
  pub if_none_match : Option (List (List ℕ))
  pub if_unmodified_since : Option (List ℕ)
  pub if_modified_since : Option (List ℕ)
  pub if_range : Option (List ℕ)
  pub ranged_if : Bool

-- what a head says of its request: the method (RFC 9112, section 3.1), the target as it was sent (section 3.2), the minor number of the version (section 2.3), the value of Host (section 3.2; empty where there is none), whether the connection is to be closed after the response (section 9.6), whether the client waits for 100 Continue (RFC 9110, section 10.1.1), the value of Range (section 14.2), where exactly one stands, the conditions (section 13.1), and what body follows (RFC 9112, section 6.3)
pub record RequestParts : Type 0 where
  pub method : List ℕ
  pub target : List ℕ
  pub minor : ℕ
  pub host : List ℕ
  pub asked_close : Bool
  pub expects : Bool
  pub range : Option (List ℕ)
  pub conditions : Conditions
  pub body : BodyKind

-- no condition
abbrev pub no_conditions : Conditions
no_conditions = record {
  if_match = None;
  if_none_match = None;
  if_unmodified_since = None;
  if_modified_since = None;
  if_range = None;
  ranged_if = false;
}
