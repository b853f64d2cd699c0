-- None of the impostors meets a contract; the answers that show it are worked in Laws/.
pub mod Laws
pub mod Impostors
