-- A reply without the values of a scan, and the requests that get one.
use Rattle.teb_rules.specs.declared.names.Reply.{Reply}
use Rattle.teb_rules.specs.declared.names.Reply.TheVariants as reply
use Rattle.teb_rules.specs.declared.names.Request.{Request}
use Rattle.teb_rules.specs.declared.names.Request.TheVariants as request
use Rattle.short_reply.specs.declared.ShortReply.{ShortReply}
use Rattle.short_reply.specs.declared.ShortReply.TheVariants.{Begun, Value, Done, Prepared, Committed, Again, Aborted, Refused}

-- the reply as the session gets it
abbrev pub full_reply : ShortReply → Reply
full_reply (Begun t) = reply.Begun t
full_reply (Value v) = reply.Value v
full_reply Done = reply.Done
full_reply Prepared = reply.Prepared
full_reply Committed = reply.Committed
full_reply (Again u n) = reply.Again u n
full_reply (Aborted c) = reply.Aborted c
full_reply (Refused r) = reply.Refused r

-- the reply has the values of a scan
abbrev pub HasValues : Reply → Type 0
HasValues (reply.Values vs) = Unit {0}
HasValues _ = ⊥

-- the request is no scan
abbrev pub IsNoScan : Request → Type 0
IsNoScan (request.Scan x n) = ⊥
IsNoScan _ = Unit {0}
