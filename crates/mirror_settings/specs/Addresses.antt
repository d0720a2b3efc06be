-- Addresses, as `HOST:PORT`.
use Rattle.std.specs.Prelude.{ℕ, ◌<◌, ◌^◌, ◌++◌, ◌∷◌, List, length, decimal}
use Rattle.mirror_settings.specs.declared.address.Address.{Address}

-- a host that isn't empty, and a port
abbrev pub IsAddress : Address → Type 0
IsAddress a = (0 < length a.host) × (a.port < 2 ^ 16)

-- the host, a colon, and the port in decimal
abbrev pub spelled : Address → List ℕ
spelled a = a.host ++ 58 ∷ decimal a.port
