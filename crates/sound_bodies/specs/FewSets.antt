-- "counts agree with section 1 and the maxima": where the names of body 1 are sound no count needs more than two bytes, so that the bytes of the sets
-- that belong to it can be counted. Assumes nothing.
use Rattle.std.specs.Prelude.{◌<◌}
use Rattle.policy.specs.declared.NameCounts.{NameCounts}

-- of whatever has a set in a table there are few
pub record Few (n : NameCounts) : Type 0 where
  pub users : n.users < 65536
  pub roles : n.roles < 65536
  pub user-attributes : n.user_attributes < 65536
  pub role-attributes : n.role_attributes < 65536
  pub type-attributes : n.type_attributes < 65536
