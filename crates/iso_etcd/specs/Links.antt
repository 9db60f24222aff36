-- Connections.
use Rattle.std.specs.Prelude.{⊤}
use Rattle.iso_etcd.specs.declared.link.Link.{Link}
use Rattle.iso_etcd.specs.declared.response.Loss.{Loss}
use Rattle.iso_etcd.specs.declared.response.Loss.TheVariants.{Unsent, Lost, Memory}

-- the stream of a connection, with all that was written to it
abbrev pub link_stream : {S : Type 0} → Link S → S
link_stream link = link.stream

-- nothing of the request was sent
abbrev pub IsUnsent : Loss → Type 0
IsUnsent (Unsent cause) = ⊤
IsUnsent Lost = ⊥
IsUnsent Memory = ⊥
