-- Where a front takes connections and command lines, and where a command is sent.
use Rattle.std.specs.Prelude.{◌≡◌, ℕ, List, ◌∷◌, []}
use Rattle.std.specs.Net.Addr.{IsV4And, ipv4_octets}
use Rattle.std.specs.Net.Socket.{socket_ip, socket_port}
use Rattle.std.specs.declared.net.socket_addr.SocketAddr.{SocketAddr}

-- the address has these four numbers, and this port
pub record IsAddress (octets : List ℕ) (port : ℕ) (a : SocketAddr) : Type 0 where
  pub ip : IsV4And (socket_ip a) (λ ip. ipv4_octets ip ≡ octets)
  pub port_is : socket_port a ≡ port

-- the address is one of this machine alone, 127.0.0.1
abbrev pub IsOfThisMachine : ℕ → SocketAddr → Type 0
IsOfThisMachine port a = IsAddress (127 ∷ 0 ∷ 0 ∷ 1 ∷ []) port a
